-- What a node has sent, by its history alone: what a prefix of a history sends, the history does.
use Rattle.std.proofs.Common.{◌≡◌, ℕ, ◌≤◌, Bool, true, false, List, [], ◌∷◌, ◌++◌, take, drop}
use Rattle.std.proofs.Common.{refl, sym, ap, ◌∙◌, subst}
use Rattle.std.specs.Prelude.{IsTrue}
use Rattle.std.proofs.lemmas.List.{take-take, take-append-drop}
use Rattle.quorum_sizes.specs.Sizes.{Counts}
use Rattle.link_frames.specs.declared.frames.packet.Message.{Message}
use Rattle.bracha_instance.specs.Broadcast.{is_for}
use Rattle.role_node.specs.Access.{sent_at}
use Rattle.role_node.specs.declared.event.Event.{Event}
use Rattle.byz_world.specs.Runs.{Run, history_of, of_kind, has_sent}
use Rattle.byz_world.proofs.Exported.{has_sent_stays, history_of-append, history_of-none, history_of-own}

abbrev pub is_said : Counts → ℕ → List Event → Message → Bool
is_said s node history m = is_for m.command (of_kind m.kind (sent_at s node history m.owner m.place))

pub said_is : (s : Counts) (run : Run) (node : ℕ) (m : Message) →
    has_sent s run node m ≡ is_said s node (history_of node run) m
unfolding has_sent
said_is s run node m = refl

-- the run of one node alone
alone : ℕ → List Event → Run
alone node [] = []
alone node (e ∷ es) = (node, e) ∷ alone node es

alone_is : (node : ℕ) (history : List Event) → history_of node (alone node history) ≡ history
unfolding alone
alone_is node [] = history_of-none node
alone_is node (e ∷ es) = history_of-own node e (alone node es) ∙ ap (λ l. e ∷ l) (alone_is node es)

both_alone : (node : ℕ) (front rest : List Event) →
    history_of node (alone node front ++ alone node rest) ≡ front ++ rest
both_alone node front rest =
    history_of-append node (alone node front) (alone node rest)
    ∙ (λ i. alone_is node front i ++ alone_is node rest i)

said_stays : (s : Counts) (node : ℕ) (front rest : List Event) (m : Message) → IsTrue (is_said s node front m) →
    IsTrue (is_said s node (front ++ rest) m)
said_stays s node front rest m said =
    let before : has_sent s (alone node front) node m ≡ is_said s node front m =
    said_is s (alone node front) node m ∙ ap (λ h. is_said s node h m) (alone_is node front) in
    let later : has_sent s (alone node front ++ alone node rest) node m ≡ is_said s node (front ++ rest) m =
    said_is s (alone node front ++ alone node rest) node m
    ∙ ap (λ h. is_said s node h m) (both_alone node front rest) in
    subst IsTrue later (has_sent_stays s (alone node front) (alone node rest) node m (subst IsTrue (sym before) said))

pub said_by_all : (s : Counts) (k node : ℕ) (history : List Event) (m : Message) →
    IsTrue (is_said s node (take k history) m) → IsTrue (is_said s node history m)
said_by_all s k node history m said =
    subst (λ h. IsTrue (is_said s node h m)) (take-append-drop k history)
    (said_stays s node (take k history) (drop k history) m said)

pub said_by_more : (s : Counts) (k more node : ℕ) (history : List Event) (m : Message) → k ≤ more →
    IsTrue (is_said s node (take k history) m) → IsTrue (is_said s node (take more history) m)
said_by_more s k more node history m fewer said =
    said_by_all s k node (take more history) m
    (subst (λ h. IsTrue (is_said s node h m)) (sym (take-take k more history fewer)) said)

-- What may be known of a node: at itself its history, elsewhere the front that is synced.

abbrev pub known_by : Bool → ℕ → List Event → List Event
known_by true synced history = history
known_by false synced history = take synced history

pub known_by_all : (s : Counts) (own : Bool) (k node : ℕ) (history : List Event) (m : Message) →
    IsTrue (is_said s node (known_by own k history) m) → IsTrue (is_said s node history m)
known_by_all s true k node history m said = said
known_by_all s false k node history m said = said_by_all s k node history m said

pub known_by_more : (s : Counts) (own : Bool) (k more node : ℕ) (history : List Event) (m : Message) → k ≤ more →
    IsTrue (is_said s node (known_by own k history) m) → IsTrue (is_said s node (known_by own more history) m)
known_by_more s true k more node history m fewer said = said
known_by_more s false k more node history m fewer said = said_by_more s k more node history m fewer said
