-- The laws of streams.
use Rattle.std.proofs.Common.{◌≡◌, ℕ, ◌+◌, ◌≤◌, List, ◌++◌, Option, None, sym, ap, ◌∙◌, arith}
use Rattle.quorum_sizes.specs.Sizes.{Counts}
use Rattle.link_frames.specs.frames.Packets.{PacketValue}
use Rattle.bracha_instance.proofs.Exported.{delivery_stays}
use Rattle.bracha_instance.specs.Broadcast.{delivered}
use Rattle.owner_streams.specs.Places.{takes_at, delivered_at, places_end, stream}
use Rattle.owner_streams.specs.Laws.{StreamIsExact, StreamIsOne, DeliveryStays, StreamGrows}
use Rattle.owner_streams.proofs.Answers.{answers_are_all, answers_are_one, answers_go_on}
use Rattle.owner_streams.proofs.Taken.{takes_at-append, takes_at-end, delivered-none, places_end-append}

nothing_later : (s : Counts) (owner place : ℕ) (packets : List PacketValue) → places_end packets ≤ place
    → delivered_at s owner place packets ≡ None
nothing_later s owner place packets h = ap (delivered s) (takes_at-end owner place packets h) ∙ delivered-none s

from_zero : {A : Type 0} (ask : ℕ → Option A) (i : ℕ) → ask (0 + i) ≡ ask i
from_zero ask i = let e : 0 + i ≡ i = omega arith in ap ask e

pub delivery_stays_lem : DeliveryStays
delivery_stays_lem s owner place before later c e =
    ap (delivered s) (takes_at-append owner place before later)
    ∙ delivery_stays s (takes_at owner place before) (takes_at owner place later) c e

pub stream_is_exact_lem : StreamIsExact
unfolding stream
stream_is_exact_lem s owner packets place h =
    sym (from_zero (λ k. delivered_at s owner k packets) place)
    ∙ answers_are_all (λ k. delivered_at s owner k packets) 0 (places_end packets)
    (λ i past. let later : places_end packets ≤ i = omega arith in nothing_later s owner i packets later) place h

pub stream_is_one_lem : StreamIsOne
stream_is_one_lem s owner packets commands is =
    answers_are_one (λ k. delivered_at s owner k packets) 0 commands (stream s owner packets)
    (λ i h. from_zero (λ k. delivered_at s owner k packets) i ∙ is i h)
    (λ i h. from_zero (λ k. delivered_at s owner k packets) i ∙ stream_is_exact_lem s owner packets i h)

pub stream_grows_lem : StreamGrows
unfolding stream
stream_grows_lem s owner before later =
    answers_go_on (λ k. delivered_at s owner k before) (λ k.
    delivered_at s owner k (before ++ later)) 0 (places_end before) (places_end (before ++ later))
    (λ i x e. delivery_stays_lem s owner i before later x e) (places_end-append before later)
