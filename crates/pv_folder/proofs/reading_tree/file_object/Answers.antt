use Rattle.std.proofs.Common.{◌∙◌, refl, sym, ap, subst, arith}
use Rattle.pv_steps.specs.Attributes.{are_bytes}
use Rattle.pv_steps.specs.declared.node.Kind.TheVariants.{File}
use Rattle.pv_steps.specs.Objects.{IsObject}
use Rattle.pv_steps.proofs.ObjectLaws.{IsObject-fresh}
use Rattle.pv_folder.proofs.reading_tree.file_object.Goals as goal

pub returns-clause-whole : goal.returns-clause-whole
returns-clause-whole c =
    let small = ap are_bytes (sym c.as_slice.ensures) ∙ c.are_bytes.ensures in
    subst IsObject (sym c.fresh.ensures) (IsObject-fresh File 0o644 c.args.bytes 0 0 0 (omega arith) (omega arith) tt small (refl, refl) refl)
