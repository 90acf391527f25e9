-- What a message that counts causes is for its own command.
use Rattle.std.proofs.Common.{◌≡◌, ℕ, Bool, true, false, Option, Some, None, refl, sym, ap, ◌∙◌}
use Rattle.std.specs.Prelude.{IfSome, is_some, option_map, if◌then◌else◌}
use Rattle.std.specs.Option.{option_or}
use Rattle.quorum_sizes.specs.Sizes.{Counts}
use Rattle.role_commands.specs.declared.command.Command.{Command}
use Rattle.link_frames.specs.declared.frames.kind.Kind.{Kind}
use Rattle.link_frames.specs.declared.frames.kind.Kind.TheVariants.{Send, Echo, Ready}
use Rattle.bracha_instance.specs.States.{State}
use Rattle.bracha_instance.specs.Taking.{newly, sent_for}
use Rattle.bracha_instance.specs.NewTakes.{kind_due}
use Rattle.bracha_instance.specs.declared.tallies.Vote.{Vote}
use Rattle.bracha_instance.specs.declared.tallies.Vote.TheVariants.{Echo as EchoVote, Ready as ReadyVote}
use Rattle.bracha_instance.specs.inside.Next.{only_if, after_vote, after_kind}

-- if there is a command, it is this one
abbrev pub IsThis : Command → Option Command → Type 0
IsThis c o = IfSome o (λ x. x ≡ c)

is_this-same : (c : Command) (o : Option Command) → IsThis c (newly o o)
is_this-same c None = tt
is_this-same c (Some x) = tt

is_this-due : (c : Command) (o : Option Command) (due : Bool) → IsThis c (newly o (only_if due c))
is_this-due c None true = refl
is_this-due c None false = tt
is_this-due c (Some x) due = tt

is_this-first : (c : Command) (o : Option Command) (due : Bool) → IsThis c (newly o (option_or o (only_if due c)))
is_this-first c None true = refl
is_this-first c None false = tt
is_this-first c (Some x) due = tt

-- what one more message newly has a node echo, ready and deliver
pub record AreThis (c : Command) (before after : State) : Type 0 where
  pub echoed : IsThis c (newly before.echoed after.echoed)
  pub readied : IsThis c (newly before.readied after.readied)
  pub delivered : IsThis c (newly before.delivered after.delivered)

are_this-vote : (s : Counts) (st : State) (vote : Vote) (name : ℕ) (c : Command) (delivered : Option Command)
    → AreThis c st (after_vote s st vote name c delivered)
are_this-vote s st vote name c None =
    record {
      echoed = is_this-same c st.echoed;
      readied = is_this-first c st.readied _;
      delivered = is_this-due c st.delivered _;
    }
are_this-vote s st vote name c (Some d) =
    record {
      echoed = is_this-same c st.echoed;
      readied = is_this-same c st.readied;
      delivered = is_this-same c st.delivered;
    }

pub are_this : (s : Counts) (st : State) (kind : Kind) (name : ℕ) (c : Command)
    → AreThis c st (after_kind s st kind name c)
are_this s st Send name c =
    record {
      echoed = is_this-first c st.echoed true;
      readied = is_this-same c st.readied;
      delivered = is_this-same c st.delivered;
    }
are_this s st Echo name c = are_this-vote s st EchoVote name c st.delivered
are_this s st Ready name c = are_this-vote s st ReadyVote name c st.delivered

-- the flags say which message is sent ..
sent_flags : (c : Command) (echoed readied : Option Command) → IsThis c echoed → IsThis c readied
    → option_map (λ kind. (kind, c)) (kind_due (is_some echoed) (is_some readied)) ≡ sent_for echoed readied
sent_flags c (Some x) readied e r = ap (λ y. Some (Echo, y)) (sym e)
sent_flags c None (Some x) e r = ap (λ y. Some (Ready, y)) (sym r)
sent_flags c None None e r = refl

-- .. and whether it is delivered
delivered_flag : (c : Command) (delivered : Option Command) → IsThis c delivered
    → (if is_some delivered then Some c else None) ≡ delivered
delivered_flag c None e = refl
delivered_flag c (Some x) e = ap Some (sym e)

-- what is seen of a step from state to state
pub sent_is : (c : Command) (before after : State) (echoes readies : Bool) (send : Option Kind)
    → AreThis c before after →
    echoes ≡ is_some (newly before.echoed after.echoed) → readies ≡ is_some (newly before.readied after.readied) →
    send ≡ kind_due echoes readies →
    option_map (λ kind. (kind, c)) send
    ≡ sent_for (newly before.echoed after.echoed) (newly before.readied after.readied)
sent_is c before after echoes readies send this e r is =
    ap (option_map (λ kind. (kind, c))) (is ∙ (λ i. kind_due (e i) (r i)))
    ∙ sent_flags c _ _ this.echoed this.readied

pub delivered_is : (c : Command) (before after : State) (delivers : Bool) → AreThis c before after →
    delivers ≡ is_some (newly before.delivered after.delivered) →
    (if delivers then Some c else None) ≡ newly before.delivered after.delivered
delivered_is c before after delivers this e =
    ap (λ b. if b then Some c else None) e ∙ delivered_flag c _ this.delivered
