use Rattle.std.proofs.Common.{◌≡◌, ℕ, List, Some, slice_get, get_or, length, ◌-◌, ◌<◌, ap, ◌∙◌, sym, refl, arith}
use Rattle.std.proofs.lemmas.Option.{slice_get-get_or}
use Rattle.pv_tree.proofs.Names.{Entries, after_last, name_before}
use Rattle.pv_tree.proofs.children.is_after_all.Goals as goal

-- the last item, where it stands
last_at : (es : Entries) (n : ℕ) (e : List ℕ × ℕ) → n ≡ length es → 0 < n → e ≡ get_or es (n - 1) e → Some e ≡ slice_get es (length es - 1)
last_at es n e is some at =
    let within : n - 1 < length es = omega (arith, is, some) in
    ap Some at ∙ sym (slice_get-get_or es (n - 1) e within) ∙ ap (λ (k : ℕ). slice_get es (k - 1)) is

pub returns-in-Some : goal.returns-in-Some
returns-in-Some c = λ h.
    after_last c.args.name.now c.args.entries.now.items c.in-Some.last.now c.requires
    (last_at c.args.entries.now.items c.args.entries.now.len c.in-Some.last.now c.args.entries.now.ok.0 (c.in-Some.ensures.variant.0 refl) c.in-Some.ensures.lookup)
    (sym c.order_of.ensures ∙ name_before c.order_of.result c.is_lt.result c.is_lt.ensures h)
