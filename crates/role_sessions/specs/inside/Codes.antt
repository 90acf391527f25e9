-- How sessions and the answers that are kept are stored as numbers and pairs. Serves the code, and no public contract.
use Rattle.std.specs.Prelude.{◌≡◌, ℕ, zero, suc, List, ◌⊎◌, refl}
use Rattle.std.proofs.Common.{inl, inr}
use Rattle.std.specs.Coded.{Coded, code_by, coded×, coded⊎, coded_ℕ, coded_list}
use Rattle.std.specs.FinMap as map
use Rattle.std.specs.Ordering.{nat_cmp}
use Rattle.role_sessions.specs.declared.verdict.Rule.{Rule}
use Rattle.role_sessions.specs.declared.verdict.Rule.TheVariants.{NoSession, NotYours, NoActiveRole}
use Rattle.role_sessions.specs.declared.verdict.Rule.TheVariants.{NoneAssigned, NotPermitted}
use Rattle.role_sessions.specs.declared.verdict.Verdict.{Verdict}
use Rattle.role_sessions.specs.declared.verdict.Verdict.TheVariants.{Allow, Deny}
use Rattle.role_sessions.specs.Sessions.{Session}
use Rattle.role_sessions.specs.Kept.{KeptAnswer, SessionsValue}

-- a session is stored as the pair of its parts
abbrev pub session_code : Coded Session
session_code = code_by (ℕ × List ℕ) (coded× coded_ℕ (coded_list coded_ℕ)) (λ s. (s.user, s.active)) (λ p. record {
  user = p.0;
  active = p.1;
}) (λ _. refl)

-- rules are stored as numbers
abbrev pub rule_number : Rule → ℕ
rule_number NoSession = 0
rule_number NotYours = 1
rule_number NoActiveRole = 2
rule_number NoneAssigned = 3
rule_number NotPermitted = 4

abbrev pub numbered_rule : ℕ → Rule
numbered_rule zero = NoSession
numbered_rule (suc zero) = NotYours
numbered_rule (suc (suc zero)) = NoActiveRole
numbered_rule (suc (suc (suc zero))) = NoneAssigned
numbered_rule _ = NotPermitted

abbrev pub verdict_parts : Verdict → ℕ ⊎ ℕ
verdict_parts (Allow role) = inl role
verdict_parts (Deny rule) = inr (rule_number rule)

abbrev pub verdict_of_parts : ℕ ⊎ ℕ → Verdict
verdict_of_parts (inl role) = Allow role
verdict_of_parts (inr number) = Deny (numbered_rule number)

pub verdict_of_its_parts : (v : Verdict) → verdict_of_parts (verdict_parts v) ≡ v
verdict_of_its_parts (Allow role) = refl
verdict_of_its_parts (Deny NoSession) = refl
verdict_of_its_parts (Deny NotYours) = refl
verdict_of_its_parts (Deny NoActiveRole) = refl
verdict_of_its_parts (Deny NoneAssigned) = refl
verdict_of_its_parts (Deny NotPermitted) = refl

abbrev pub verdict_code : Coded Verdict
verdict_code = code_by (ℕ ⊎ ℕ) (coded⊎ coded_ℕ coded_ℕ) verdict_parts verdict_of_parts verdict_of_its_parts

abbrev pub kept_code : Coded KeptAnswer
kept_code =
    code_by ((ℕ × ℕ) × (ℕ × Verdict)) (coded× (coded× coded_ℕ coded_ℕ) (coded× coded_ℕ verdict_code))
    (λ k. ((k.session, k.operation), (k.object, k.answer)))
    (λ p. record { session = p.0.0; operation = p.0.1; object = p.1.0; answer = p.1.1 }) (λ _. refl)

-- the whole is stored as the pairs of its parts
abbrev pub sessions_code : Coded SessionsValue
sessions_code =
    code_by ((ℕ × map.FinMap nat_cmp Session) × List KeptAnswer)
    (coded× (coded× coded_ℕ (map.code coded_ℕ session_code)) (coded_list kept_code))
    (λ v. ((v.state.opened, v.state.open_sessions), v.kept))
    (λ p. record { state = record { opened = p.0.0; open_sessions = p.0.1 }; kept = p.1 }) (λ _. refl)
