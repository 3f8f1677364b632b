-- Paths below one path, told apart by what follows it.
use Rattle.std.specs.Prelude.{◌≡◌, ◌≢◌, ℕ, true, false, cond, ◌&&◌, List, [], ◌∷◌, ◌++◌, Option, None}
use Rattle.std.proofs.Common.{refl, sym, ap, ◌∙◌, append_assoc, append-nil}
use Rattle.std.proofs.lemmas.Bool.{false_from_ne_true}
use Rattle.pv_path.specs.Names.{same_bytes}
use Rattle.pv_path.specs.Paths.{Path, is_prefix, parent_of, rest_under, same_path}
use Rattle.pv_path.proofs.PathLaws.{is_prefix-append, is_prefix-trans, not_prefix_not_same, parent_of-push, parent_parts, rest_under-None, same_bytes-refl}
use Rattle.pv_path.proofs.Tests.{true_not_false}

pub rest_under-below : (top p q : Path) → rest_under (top ++ p) (top ++ q) ≡ rest_under p q
rest_under-below [] p q = refl
rest_under-below (name ∷ top) p q = ap (λ b. cond {A = Option Path} b (rest_under (top ++ p) (top ++ q)) None) (same_bytes-refl name) ∙ rest_under-below top p q

pub is_prefix-below : (top p q : Path) → is_prefix (top ++ p) (top ++ q) ≡ is_prefix p q
is_prefix-below [] p q = refl
is_prefix-below (name ∷ top) p q = ap (λ b. b && is_prefix (top ++ p) (top ++ q)) (same_bytes-refl name) ∙ is_prefix-below top p q

pub same_path-below : (top p q : Path) → same_path (top ++ p) (top ++ q) ≡ same_path p q
same_path-below [] p q = refl
same_path-below (name ∷ top) p q = ap (λ b. b && same_path (top ++ p) (top ++ q)) (same_bytes-refl name) ∙ same_path-below top p q

-- ---- what is not below it

pub not_below : (top p q : Path) → is_prefix top q ≡ false → is_prefix (top ++ p) q ≡ false
not_below top p q out =
    false_from_ne_true (is_prefix (top ++ p) q) (λ e. true_not_false (is_prefix top q) (is_prefix-trans top (top ++ p) q (is_prefix-append top p) e) out)

pub no_rest_below : (top p q : Path) → is_prefix top q ≡ false → rest_under (top ++ p) q ≡ None
no_rest_below top p q out = rest_under-None (top ++ p) q (not_below top p q out)

pub not_same_below : (top p q : Path) → is_prefix top q ≡ false → same_path (top ++ p) q ≡ false
not_same_below top p q out = not_prefix_not_same (top ++ p) q (not_below top p q out)

-- ---- parents

pub parent_of-below : (top p : Path) → p ≢ [] → parent_of (top ++ p) ≡ top ++ parent_of p
parent_of-below top p some =
    let parts = parent_parts p some in
    ap (λ r. parent_of (top ++ r)) parts.1 ∙ ap parent_of (sym (append_assoc top (parent_of p) (parts.0 ∷ []))) ∙ parent_of-push (top ++ parent_of p) parts.0

pub below_some : (top p : Path) → p ≢ [] → top ++ p ≢ []
below_some [] p some e = some e
below_some (name ∷ top) p some e = cc

-- what has one name more is no prefix
pub longer : (folder : Path) (name : List ℕ) → is_prefix (folder ++ name ∷ []) folder ≡ false
longer folder name = ap (is_prefix (folder ++ name ∷ [])) (sym (append-nil folder)) ∙ is_prefix-below folder (name ∷ []) []

-- names beside each other
pub beside : (folder : Path) (name other : List ℕ) (rest : Path) → same_bytes name other ≡ false → is_prefix (folder ++ name ∷ []) (folder ++ other ∷ rest) ≡ false
beside folder name other rest differ = is_prefix-below folder (name ∷ []) (other ∷ rest) ∙ ap (λ b. b && true) differ
