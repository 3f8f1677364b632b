use Rattle.std.proofs.Common.{◌≡◌, true, sym, subst}
use Rattle.pv_path.specs.Paths.{has_names}
use Rattle.pv_path.proofs.PathLaws.{has_names-take}
use Rattle.pv_table.proofs.message.first_names.Goals as goal

pub of-requires : goal.of-requires
of-requires c =
    has_names-take c.min.result c.names-names.result.now (subst (λ p. has_names p ≡ true) (sym c.names-names.ensures.value) c.names-names.ensures.names)
