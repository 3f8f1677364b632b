use Rattle.std.proofs.Common.{◌≡◌, ◌<◌, ◌^◌, ◌++◌, true, List, ℕ, codes, refl, sym, subst, arith}
use Rattle.std.specs.Fmt.{decimal}
use Rattle.pv_path.specs.Printing.{printed}
use Rattle.pv_text.specs.Lines.{is_line}
use Rattle.pv_text.proofs.Characters.{one_line-append, one_line-decimal, one_line-printed}
use Rattle.pv_sysusers.proofs.groups.say_in_use.Goals as goal

pub push_at-requires : goal.push_at-requires
push_at-requires c =
    let name = printed c.args.name.now in
    let small : c.args.n < 2 ^ 64 = omega arith in
    let front : is_line (decimal c.args.n ++ codes " is in use for ") ≡ true = one_line-append (decimal c.args.n) (codes " is in use for ") (one_line-decimal c.args.n small) refl in
    let whole : is_line (decimal c.args.n ++ codes " is in use for " ++ name) ≡ true = one_line-append (decimal c.args.n ++ codes " is in use for ") name front (one_line-printed c.args.name.now) in
    record {
      line = rw (c.deref.ensures.value, c.in_ok-add_printed.ensures, c.in_ok-extend_from_slice.ensures.items, c.in_ok-text.ensures.items, c.as_bytes.ensures.value)
          (subst (λ (digits : List ℕ). is_line (digits ++ codes " is in use for " ++ name) ≡ true) (sym c.in_ok-number.ensures.ok) whole);
    }
