use Rattle.std.proofs.Common.{◌≡◌, ℕ, ◌+◌, Bool, List, [], ◌∷◌, ◌++◌, Bor, None, sym, ap, subst, ◌∙◌}
use Rattle.std.specs.Map.{lookup}
use Rattle.std.specs.Str.{bytes_eq}
use Rattle.indexmap.proofs.CallerLemmas.{insert_entry-new}
use Rattle.pv_accounts.specs.InUse.{AreApart, AreCounts, Ids, count_of, id_of}
use Rattle.pv_accounts.proofs.Counting.{apart_more, counted_more, found_in, names_more, names_of}
use Rattle.pv_accounts.proofs.in_use.InUse.with.Goals as goal

pub invariant_of-result : goal.invariant_of-result
invariant_of-result c =
    let eq : Bor (List ℕ) → Bor (List ℕ) → Bool = λ x y. bytes_eq x.now y.now in
    let old : names_of c.self.inside.ids.entries ≡ c.args.self = cc in
    let none : lookup (λ k. bytes_eq c.args.name.now k.now) c.self.inside.ids.entries ≡ None = found_in c.args.name.now c.self.inside.ids.entries ∙ ap (λ (ids : Ids). id_of ids c.args.name.now) old ∙ c.requires in
    let entries : c.insert-2.new.self.entries ≡ c.self.inside.ids.entries ++ (c.args.name, c.args.id) ∷ [] = c.in_ok-insert-2.ensures.entries ∙ insert_entry-new eq c.self.inside.ids c.args.name c.args.id none in
    let view : names_of c.insert-2.new.self.entries ≡ c.args.self ++ (c.args.name.now, c.args.id) ∷ [] =
    ap names_of entries ∙ names_more c.self.inside.ids.entries c.args.name c.args.id ∙ ap (λ (ids : Ids). ids ++ (c.args.name.now, c.args.id) ∷ []) old in
    let apart : AreApart c.args.self = subst AreApart old c.self.invariant.0 in
    let counts : AreCounts c.self.inside.counts.entries c.args.self = subst (AreCounts c.self.inside.counts.entries) old c.self.invariant.1 in
    let next : c.in_ok-count.count ≡ count_of c.args.self c.args.id + 1 = c.in_ok-count.ensures ∙ ap (λ (n : ℕ). n + 1) c.count.ensures in (
      subst AreApart (sym view) (apart_more c.args.self c.args.name.now c.args.id apart c.requires),
      subst (AreCounts c.insert.new.self.entries) (sym view)
          (counted_more c.self.inside.counts.entries c.insert.new.self.entries c.args.self c.args.name.now c.args.id c.in_ok-count.count counts next (λ q. c.in_ok-insert.ensures.updates.0 q)),
    )

pub returns : goal.returns
returns c =
    let eq : Bor (List ℕ) → Bor (List ℕ) → Bool = λ x y. bytes_eq x.now y.now in
    let old : names_of c.self.inside.ids.entries ≡ c.args.self = cc in
    let none : lookup (λ k. bytes_eq c.args.name.now k.now) c.self.inside.ids.entries ≡ None = found_in c.args.name.now c.self.inside.ids.entries ∙ ap (λ (ids : Ids). id_of ids c.args.name.now) old ∙ c.requires in
    let entries : c.insert-2.new.self.entries ≡ c.self.inside.ids.entries ++ (c.args.name, c.args.id) ∷ [] = c.in_ok-insert-2.ensures.entries ∙ insert_entry-new eq c.self.inside.ids c.args.name c.args.id none in
    let view : names_of c.insert-2.new.self.entries ≡ c.args.self ++ (c.args.name.now, c.args.id) ∷ [] =
    ap names_of entries ∙ names_more c.self.inside.ids.entries c.args.name c.args.id ∙ ap (λ (ids : Ids). ids ++ (c.args.name.now, c.args.id) ∷ []) old in
    view
