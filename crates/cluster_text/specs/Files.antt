-- What reading a cluster file does.
use Rattle.std.specs.Prelude.{◌≡◌, ℕ, ◌<◌, ◌≤◌, List, length, take, ⊤, Option, Result, Ok, Err}
use Rattle.std.specs.Io.KnownBytes.{Consumes, IsAtEnd}
use Rattle.link_frames.specs.lines.LinePrograms.{HasBytes}
use Rattle.cluster_text.specs.Setups.{setup_due}
use Rattle.cluster_text.specs.declared.cluster.Mode.TheVariants.{Serve}
use Rattle.cluster_text.specs.declared.cluster.Setup.{Setup}
use Rattle.cluster_text.specs.declared.fault.FileFault.{FileFault}
use Rattle.cluster_text.specs.declared.fault.FileFault.TheVariants.{Unread, Cluster, Memory}

-- the setup is the one, or the fault the first, that all that the reader had says
abbrev pub SetupRead : Option (List ℕ) → Result Setup FileFault → Type 0
SetupRead reader (Ok setup) = (text : List ℕ) × HasBytes reader text × (setup_due Serve text ≡ Ok setup)
SetupRead reader (Err (Cluster fault)) = (text : List ℕ) × HasBytes reader text × (setup_due Serve text ≡ Err fault)
SetupRead reader (Err Unread) = ⊤
SetupRead reader (Err Memory) = ⊤

-- ---- steps of the code

-- the fault that is due to the text, or want of memory
abbrev pub RefusesSetup : List ℕ → FileFault → Type 0
RefusesSetup text (Cluster fault) = setup_due Serve text ≡ Err fault
RefusesSetup text Unread = ⊥
RefusesSetup text Memory = ⊤

-- so many bytes were read into the front of a buffer, which is full or the reader at its end
abbrev pub Filled : Option (List ℕ) → Option (List ℕ) → List ℕ → ℕ → Type 0
Filled before after buffer count =
    (count ≤ length buffer) × Consumes before after (take count buffer) × (count < length buffer → IsAtEnd after)
