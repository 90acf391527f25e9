-- Each owner's stream goes on, whatever else does.
use Rattle.std.proofs.Common.{◌≡◌, ◌<◌, inl, inr, ⊎_elim}
use Rattle.link_frames.specs.frames.Packets.{PacketValue}
use Rattle.byz_world.specs.Progress.{IsWanted, IsQuiet, EachOwnerGoesOn}
use Rattle.byz_world.proofs.Bounds.{about_is_bounded}
use Rattle.byz_world.proofs.Quiet.{quiet_is_complete, quiet_or_wanted, wanted_stays}

pub each_owner_goes_on : EachOwnerGoesOn
each_owner_goes_on config liars run owner places cluster = record {
  complete_or_wanted = ⊎_elim
      (λ (quiet : IsQuiet config liars run owner places).
      inl (quiet_is_complete config liars run owner places cluster quiet))
      (λ (one : (p : PacketValue) × IsWanted config liars run p × (p.owner ≡ owner) × (p.place < places)). inr one)
      (quiet_or_wanted config liars run owner places cluster);
  ends = about_is_bounded config liars run owner places cluster;
  stays = λ p more whole wanted. wanted_stays config liars run more p whole wanted;
}
