use Rattle.std.proofs.Common.{◌<◌, ◌^◌, ℕ, Option, sym, subst}
use Rattle.std.specs.Fmt.{decimal}
use Rattle.pv_image.specs.Reading.{Reads}
use Rattle.pv_image.proofs.Decimals.{digit_reads, number_reads}
use Rattle.pv_image.proofs.column.read_number.Goals as goal

pub returns-in-Some : goal.returns-in-Some
returns-in-Some c = digit_reads c.args.text.now c.in-Some.n c.in-Some.ensures.0 c.in-Some.ensures.1

pub returns-in-None : goal.returns-in-None
returns-in-None c =
    subst (λ (o : Option ℕ). Reads decimal (λ n. n < 2 ^ 64) c.args.text.now o) (sym c.number.ensures) (number_reads c.args.text.now)
