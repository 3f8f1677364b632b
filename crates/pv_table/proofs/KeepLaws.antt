-- Lines are kept one by one, with an index of the places of those that make something.
use Rattle.std.proofs.Common.{◌≡◌, ◌∙◌, sym, ap, refl}
use Rattle.std.specs.Prelude.{ℕ, Bool, true, false, cond, not, List, [], ◌∷◌, ◌++◌, length, filter, fold, find, Option, Some, None, is_some, slice_get}
use Rattle.std.specs.List.{list_any}
use Rattle.std.specs.Option.{option_or}
use Rattle.std.proofs.lemmas.Bool.{and_parts, or_parts, not-true}
use Rattle.std.proofs.Math.Bool.{and-false, and-true}
use Rattle.pv_glob.specs.declared.pattern.Pattern.{Pattern}
use Rattle.pv_lines.specs.declared.line.Line.{Line}
use Rattle.pv_lines.specs.declared.line.LinePath.TheVariants.{Literal, Glob}
use Rattle.pv_path.specs.Paths.{Path, same_path, same_path-decides}
use Rattle.pv_table.specs.Active.{active, are_distinct, make_same, stays, with_line}
use Rattle.pv_table.specs.Building.{IsIndexOf, first_index, makes}
use Rattle.pv_table.specs.Reaching.{is_creating, path_in}
use Rattle.pv_table.proofs.PlaceLaws.{first_index-none, first_index-push, found, missing, option_or-none}
use Rattle.pv_path.proofs.Tests.{list_any-find}

-- ---- the line that makes the same

-- a creating line makes what an earlier one makes exactly if that makes the object at its path
make_same-makes : (line first : Line) → is_creating line ≡ true → make_same first line ≡ makes (path_in line.path) first
make_same-makes line first e = rw (e, and-true (is_creating first)) refl

make_same-other : (line first : Line) → is_creating line ≡ false → make_same first line ≡ false
make_same-other line first e = rw (e, and-false (is_creating first)) refl

-- no line makes what a line over a pattern makes
none_like : (kept : List Line) (line : Line) → is_creating line ≡ false → find (λ first. make_same first line) kept ≡ None
none_like [] line e = refl
none_like (first ∷ kept) line e = rw (make_same-other line first e) (none_like kept line e)

pub find-glob : (kept : List Line) (line : Line) (pattern : Pattern) → line.path ≡ Glob pattern → find (λ first. make_same first line) kept ≡ None
find-glob kept line pattern is = none_like kept line (rw is refl)

-- the first line that makes the object at a path stands at the place of the index
pub find-at : (kept : List Line) (path : Path) (i : ℕ) → first_index (makes path) kept ≡ Some i → find (makes path) kept ≡ slice_get kept i
find-at kept path i at = let w = found (makes path) kept i at in w.1.0

pub find-missing : (kept : List Line) (path : Path) → first_index (makes path) kept ≡ None → find (makes path) kept ≡ None
find-missing kept path at = let w = missing (makes path) kept at in w.1

-- ---- a line more

pub with_line-new : (kept : List Line) (line : Line) → find (λ first. make_same first line) kept ≡ None → with_line kept line ≡ kept ++ line ∷ []
with_line-new kept line none = let other : list_any (λ first. make_same first line) kept ≡ false = list_any-find (λ first. make_same first line) kept ∙ ap is_some none in rw other refl

pub with_line-dropped : (kept : List Line) (line first : Line) → find (λ first. make_same first line) kept ≡ Some first → with_line kept line ≡ kept
with_line-dropped kept line first some = let like : list_any (λ first. make_same first line) kept ≡ true = list_any-find (λ first. make_same first line) kept ∙ ap is_some some in rw like refl

-- the index with a line more that makes what none of them makes
pub index-push : (kept : List Line) (look more : Path → Option ℕ) (line : Line) → IsIndexOf kept look → find (λ first. make_same first line) kept ≡ None
    → ((q : Path) → more q ≡ cond (makes q line) (Some (length kept)) (look q)) → IsIndexOf (kept ++ line ∷ []) more
index-push kept look more line index none step = λ q. step q ∙ by_test q (is_creating line) refl (same_path (path_in line.path) q) refl ∙ sym (first_index-push (makes q) kept line)
  where
    at_end : (q : Path) → first_index (makes q) kept ≡ None → Some (length kept) ≡ option_or (first_index (makes q) kept) (Some (length kept))
    at_end q is = rw is refl

    as_before : (q : Path) → look q ≡ option_or (first_index (makes q) kept) None
    as_before q = index q ∙ option_or-none (first_index (makes q) kept)

    no_one : (q : Path) → is_creating line ≡ true → path_in line.path ≡ q → first_index (makes q) kept ≡ None
    no_one q creates own =
        let tests : (λ first. make_same first line) ≡ makes q = λ j first. (make_same-makes line first creates ∙ ap (λ (p : Path). makes p first) own) j in
        let other : list_any (makes q) kept ≡ false =
        sym (ap (λ (test : Line → Bool). list_any test kept) tests) ∙ list_any-find (λ first. make_same first line) kept ∙ ap is_some none
        in
        first_index-none (makes q) kept other

    by_test : (q : Path) (b : Bool) → is_creating line ≡ b → (t : Bool) → same_path (path_in line.path) q ≡ t
        → cond (makes q line) (Some (length kept)) (look q) ≡ option_or (first_index (makes q) kept) (cond (makes q line) (Some (length kept)) None)
    by_test q true e true s = rw (e, s) (at_end q (no_one q e ((same_path-decides (path_in line.path) q).0 s)))
    by_test q true e false s = rw (e, s) (as_before q)
    by_test q false e t s = rw e (as_before q)

-- what a line over a path makes, and one over a pattern
pub makes-literal : (line : Line) (path q : Path) → line.path ≡ Literal path → makes q line ≡ same_path path q
makes-literal line path q is = rw is refl

pub makes-glob : (line : Line) (pattern : Pattern) (q : Path) → line.path ≡ Glob pattern → makes q line ≡ false
makes-glob line pattern q is = rw is refl

-- ---- no two lines make the object at one path

any_more : {A : Type 0} (test : A → Bool) (xs : List A) (x : A) → list_any test xs ≡ false → test x ≡ false → list_any test (xs ++ x ∷ []) ≡ false
any_more test [] x none other = rw other refl
any_more test (y ∷ xs) x none other = let u = or_parts (test y) (list_any test xs) none in rw u.0 (any_more test xs x u.1 other)

pub apart-push : (kept : List Line) (line : Line) → are_distinct kept ≡ true → list_any (λ first. make_same first line) kept ≡ false → are_distinct (kept ++ line ∷ []) ≡ true
apart-push [] line distinct none = refl
apart-push (first ∷ kept) line distinct none =
    let u = or_parts (make_same first line) (list_any (λ first. make_same first line) kept) none in
    let v = and_parts (not (list_any (make_same first) kept)) (are_distinct kept) distinct in
    let w = any_more (make_same first) kept line (not-true (list_any (make_same first) kept) v.0) u.0 in
    rw w (apart-push kept line v.1 u.1)

-- a line more that makes what none of them makes
pub distinct-push : (kept : List Line) (line : Line) → are_distinct kept ≡ true → find (λ first. make_same first line) kept ≡ None → are_distinct (kept ++ line ∷ []) ≡ true
distinct-push kept line distinct none = apart-push kept line distinct (list_any-find (λ first. make_same first line) kept ∙ ap is_some none)

-- lines of which no two make the object at one path, with further lines
kept-distinct : (kept todo : List Line) → are_distinct kept ≡ true → are_distinct (fold with_line kept todo) ≡ true
kept-distinct kept [] distinct = distinct
kept-distinct kept (line ∷ todo) distinct = kept-distinct (with_line kept line) todo (one_more (list_any (λ first. make_same first line) kept) refl)
  where
    one_more : (b : Bool) → list_any (λ first. make_same first line) kept ≡ b → are_distinct (cond b kept (kept ++ line ∷ [])) ≡ true
    one_more true e = distinct
    one_more false e = apart-push kept line distinct e

pub active-distinct : (boot : Bool) (prefix exclude : Option Path) (lines : List Line) → are_distinct (active boot prefix exclude lines) ≡ true
active-distinct boot prefix exclude lines = kept-distinct [] (filter (stays boot prefix exclude) lines) refl
