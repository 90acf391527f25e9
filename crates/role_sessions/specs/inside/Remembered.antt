-- What the open sessions remember between checks, as the code keeps it. Only private functions and proofs cite this.
use Rattle.std.specs.Prelude.{◌≡◌, ℕ, ◌<◌, ◌≤◌, ◌==◌, nat_eq, List, [], map, filter, length, All, Some, refl}
use Rattle.std.specs.Coded.{Coded, code_by, coded×, coded_ℕ, coded_list}
use Rattle.std.specs.FinMap as finite
use Rattle.std.specs.List.{flat_map}
use Rattle.std.specs.Map.{lookup, keys_of}
use Rattle.std.specs.Option.{option_map_or}
use Rattle.std.specs.Ordering.{nat_cmp}
use Rattle.role_sessions.specs.declared.answers.Remembered.{Remembered}
use Rattle.role_sessions.specs.declared.open_session.OpenSession.{OpenSession}
use Rattle.role_sessions.specs.Sessions.{Session}
use Rattle.role_sessions.specs.Decisions.{Relations, verdict}
use Rattle.role_sessions.specs.Kept.{KeptAnswer, SessionsValue}
use Rattle.role_sessions.specs.inside.Codes.{session_code, kept_code}

-- in the last generation nothing is remembered
abbrev pub last_generation : ℕ
last_generation = 18446744073709551615

-- nothing is remembered
abbrev pub IsNothing : Remembered → Type 0
IsNothing r = r.generation ≡ 0

-- if the answer is of this generation, it is the verdict in the session under these relations
abbrev pub IsRightFor : Relations → ℕ → Session → Remembered → Type 0
IsRightFor relations generation session r =
    r.generation ≡ generation → r.answer ≡ verdict relations (Some session) session.user r.operation r.object

-- the answer is of no later generation, nor of the last
abbrev pub IsPast : ℕ → Remembered → Type 0
IsPast generation r = (r.generation ≤ generation) × (r.generation < last_generation)

abbrev pub RemembersNothing : OpenSession → Type 0
RemembersNothing o = All IsNothing o.answers.places

abbrev pub RemembersRight : Relations → ℕ → OpenSession → Type 0
RemembersRight relations generation o = All (IsRightFor relations generation o.session) o.answers.places

abbrev pub IsOfThePast : ℕ → OpenSession → Type 0
IsOfThePast generation o = All (IsPast generation) o.answers.places

-- the answers of this generation
abbrev pub kept_in : ℕ → ℕ → OpenSession → List KeptAnswer
kept_in generation id o =
    map (λ r. record { session = id; operation = r.operation; object = r.object; answer = r.answer })
    (filter (λ r. r.generation == generation) o.answers.places)

abbrev pub Entries : Type 0
Entries = List (ℕ × OpenSession)

abbrev pub sessions_in : Entries → List (ℕ × Session)
sessions_in entries = map (λ e. (e.0, e.1.session)) entries

-- the answers of this generation of all sessions
unfoldable pub kept_by : ℕ → Entries → List KeptAnswer
kept_by generation entries =
    flat_map (λ id. option_map_or (kept_in generation id) (lookup (nat_eq id) entries) []) (keys_of entries)

-- the open sessions, and the answers that they keep
pub record OpenValue : Type 0 where
  pub sessions : finite.FinMap nat_cmp Session
  pub kept : List KeptAnswer

abbrev pub open_code : Coded OpenValue
open_code =
    code_by (finite.FinMap nat_cmp Session × List KeptAnswer)
    (coded× (finite.code coded_ℕ session_code) (coded_list kept_code))
    (λ v. (v.sessions, v.kept))
    (λ p. record { sessions = p.0; kept = p.1 }) (λ _. refl)

abbrev pub open_value : ℕ → Entries → OpenValue
open_value generation entries =
    record { sessions = finite.from_entries (sessions_in entries); kept = kept_by generation entries }

-- the same as sessions, whatever their count
abbrev pub as_sessions : OpenValue → SessionsValue
as_sessions v = record { state = record { opened = 0; open_sessions = v.sessions }; kept = v.kept }

-- what holds of the code's table: each id stands in it once, its generation is at least 1, and no answer is later
pub record IsTable (generation : ℕ) (entries : Entries) : Type 0 where
  pub long : finite.len (finite.from_entries {R = nat_cmp} (sessions_in entries)) ≡ length (sessions_in entries)
  pub started : 1 ≤ generation
  pub within : generation ≤ last_generation
  pub past : (id : ℕ) (o : OpenSession) → lookup (nat_eq id) entries ≡ Some o → IsOfThePast generation o
