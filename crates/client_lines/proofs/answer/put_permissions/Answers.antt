use Rattle.std.proofs.Common.{◌∙◌, arith, ap, sym, subst, IsAscii}
use Rattle.std.proofs.Math.Seq.{drop-length}
use Rattle.std.proofs.lemmas.List.{drop_all}
use Rattle.std.proofs.lemmas.Str.Ascii.{IsAscii-nil}
use Rattle.client_lines.specs.inside.Items.{behind_commas}
use Rattle.client_lines.proofs.answer.put_permissions.Goals as goal

pub loop-left-init : goal.loop-left-init
loop-left-init c =
    let none = drop_all 304 c.args.block.now (omega arith) in
    record {
      written = none ∙ ap behind_commas (sym (drop-length c.args.permissions.now));
      ascii = subst IsAscii (sym none) IsAscii-nil;
      few = omega arith;
      room = omega arith;
      within = omega arith;
    }
