use Rattle.std.proofs.Common.{◌≡◌, Bool, true, false, ◌&&◌, Option, Some, None, option_map, List, [], ◌∷◌, ◌++◌, map, slice_get, refl, sym, ap, ◌∙◌, append-nil}
use Rattle.std.specs.List.{list_all}
use Rattle.pv_path.specs.Paths.{Path, has_names}
use Rattle.pv_steps.specs.declared.object.Object.{Object}
use Rattle.pv_tree.proofs.Files.{Entries}
use Rattle.pv_tree.proofs.walk.paths_left.Goals as goal

first_named : (es : Entries) (x : Path × Object) → Some x ≡ slice_get es 0 → list_all (λ e. has_names e.0) es ≡ true → has_names x.0 ≡ true
first_named [] x is named = absurd (let no : Some x ≡ None = is in cc)
first_named (e ∷ es) x is named =
    let same : x ≡ e = cc in
    ap (λ (v : Path × Object). has_names v.0) same ∙ by (has_names e.0) named
  where
    by : (b : Bool) → (b && list_all (λ e. has_names e.0) es) ≡ true → b ≡ true
    by true h = refl
    by false h = h

none_left : (es : Entries) → None ≡ slice_get es 0 → es ≡ []
none_left [] is = refl
none_left (e ∷ es) is = absurd (let no : None ≡ Some e = is in cc)

pub of-requires : goal.of-requires
of-requires c =
    first_named c.loop-entry.walk (c.in-Some.entry.names.now, record { node = c.in-Some.entry.node.now; payload = c.in-Some.entry.payload.now })
    (ap (option_map (λ p. (p.names.now, record { node = p.node.now; payload = p.payload.now }))) (sym c.in-Some.is) ∙ c.place.ensures) c.loop-entry.invariant.named

pub returns : goal.returns
returns c =
    let none : c.loop-entry.walk ≡ [] = none_left c.loop-entry.walk (ap (option_map (λ p. (p.names.now, record { node = p.node.now; payload = p.payload.now }))) (sym c.in_default.is) ∙ c.place.ensures) in
    sym (append-nil c.loop-entry.paths.items) ∙ sym (ap (λ (v : Entries). c.loop-entry.paths.items ++ map (λ e. e.0) v) none) ∙ c.loop-entry.invariant.so_far
