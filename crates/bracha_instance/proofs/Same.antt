-- The tests of kinds, and under the names that layers above cite those of commands.
use Rattle.std.proofs.Common.{◌≡◌, true, refl}
use Rattle.link_frames.specs.frames.Kinds.{same_kind}
use Rattle.link_frames.specs.declared.frames.kind.Kind.{Kind}
use Rattle.link_frames.specs.declared.frames.kind.Kind.TheVariants.{Send, Echo, Ready}
pub use Rattle.role_commands.proofs.Exported.{same_command_is as same_command-true}
pub use Rattle.role_commands.proofs.Exported.{same_command-self as same_command-refl}

pub same_kind-true : (j k : Kind) → same_kind j k ≡ true → j ≡ k
same_kind-true Send Send e = refl
same_kind-true Echo Echo e = refl
same_kind-true Ready Ready e = refl
same_kind-true _ _ e = cc

pub same_kind-refl : (k : Kind) → same_kind k k ≡ true
same_kind-refl Send = refl
same_kind-refl Echo = refl
same_kind-refl Ready = refl
