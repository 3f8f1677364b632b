use Rattle.std.proofs.Common.{◌≡◌, ◌<◌, ◌^◌, ◌++◌, List, ℕ, true, codes, refl, sym, ap, subst, arith}
use Rattle.std.specs.Fmt.{decimal}
use Rattle.pv_text.specs.Lines.{is_line}
use Rattle.pv_text.proofs.Characters.{one_line-append, one_line-decimal}
use Rattle.pv_overlap.proofs.saying.place_text.Goals as goal

pub returns-clause-line : goal.returns-clause-line
returns-clause-line c =
    let small : c.args.number < 2 ^ 64 = omega arith in
    let new_messages : c.extend_from_slice-2.new.self.items ≡ c.args.file.now ++ codes ":" ++ decimal c.args.number =
    rw (c.in_ok-extend_from_slice-2.ensures.items, c.in_ok-extend_from_slice.ensures.items, c.in_ok-text.ensures.items, c.as_slice.ensures.value, c.as_bytes.ensures.value)
    (ap (λ (digits : List ℕ). c.args.file.now ++ codes ":" ++ digits) c.in_ok-number.ensures.ok) in
    subst (λ (t : List ℕ). is_line t ≡ true) (sym new_messages)
    (one_line-append (c.args.file.now ++ codes ":") (decimal c.args.number) (one_line-append c.args.file.now (codes ":") c.as_slice.ensures.line refl) (one_line-decimal c.args.number small))
