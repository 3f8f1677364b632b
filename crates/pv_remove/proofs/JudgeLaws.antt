-- Laws of what is said of lines, one after the other.
use Rattle.std.specs.Prelude.{◌≡◌, ℕ, ◌+◌, ◌^◌, ◌<◌, List, [], ◌∷◌, ◌++◌, length, map, take, filter}
use Rattle.std.proofs.Common.{refl, sym, ap, subst, ◌∙◌, arith, zero, suc, append_assoc, get_or}
use Rattle.std.specs.List.{flat_map}
use Rattle.std.specs.FinMap as fin
use Rattle.std.proofs.lemmas.List.{flat_map_more, map-append, take_more}
use Rattle.pv_lines.specs.declared.line.Line.{Line}
use Rattle.pv_lines.specs.declared.line.LinePath.{LinePath}
use Rattle.pv_lines.specs.declared.line.LinePath.TheVariants.{Literal, Glob}
use Rattle.pv_lines.specs.Lines.{IsLine, IsLinePath}
use Rattle.pv_path.specs.Paths.{Path}
use Rattle.pv_steps.specs.Trees.{Files}
use Rattle.pv_table.specs.declared.taking.Taking.{Taking}
use Rattle.pv_table.specs.declared.taking.Taking.TheVariants as taking
use Rattle.pv_table.specs.ActionTable.{taking_of}
use Rattle.pv_table.specs.Reaching.{names, path_in}
use Rattle.pv_table.specs.Removed.{judged}
use Rattle.pv_remove.proofs.CoverLaws.{kept_passes, named_short}

-- ---- one item more

taken_more : {A : Type 0} (items : List A) (i : ℕ) (x : A) → i < length items → x ≡ get_or items i x → take i items ++ x ∷ [] ≡ take (i + 1) items
taken_more items i x within is = sym (take_more items i x within ∙ ap (λ y. take i items ++ y ∷ []) (sym is))

pub flat_more : {A B : Type 0} (f : A → List B) (items : List A) (i : ℕ) (x : A) (old now new : List B) → i < length items → x ≡ get_or items i x
    → now ≡ old ++ flat_map f (take i items) → new ≡ now ++ f x → new ≡ old ++ flat_map f (take (i + 1) items)
flat_more f items i x old now new within is before after =
    after ∙ ap (λ bs. bs ++ f x) before ∙ flat_map_more f old (take i items) x ∙ ap (λ xs. old ++ flat_map f xs) (taken_more items i x within is)

pub map_more : {A B C : Type 0} (g : B → C) (f : A → List B) (items : List A) (i : ℕ) (x : A) (old now new : List C) → i < length items → x ≡ get_or items i x
    → now ≡ old ++ map g (flat_map f (take i items)) → new ≡ now ++ map g (f x) → new ≡ old ++ map g (flat_map f (take (i + 1) items))
map_more g f items i x old now new within is before after =
    after ∙ ap (λ bs. bs ++ map g (f x)) before ∙ append_assoc old (map g (flat_map f (take i items))) (map g (f x))
    ∙ ap (λ bs. old ++ bs) (sym (map-append g (flat_map f (take i items)) (f x)) ∙ ap (map g) (flat_map_more f [] (take i items) x ∙ ap (flat_map f) (taken_more items i x within is)))

-- ---- sizes

-- so has the path of a line that names one path
pub own_short : (line : Line) → IsLine line → length (path_in line.path) < 2 ^ 32
own_short line is = by line.path is.fits.path
  where
    by : (lp : LinePath) → IsLinePath is.row lp → length (path_in lp) < 2 ^ 32
    by (Literal p) fits = fits.1.few
    by (Glob pattern) fits = omega arith

-- the paths at which a line is judged have fewer than 2^32 names
pub judged_short : (line : Line) (t : Files) (i : ℕ) (path : Path) → IsLine line → i < length (judged line t) → path ≡ get_or (judged line t) i path → length path < 2 ^ 32
judged_short line t i path is within at = by (taking_of line) refl
  where
    named : judged line t ≡ filter (names line) (fin.keys t) → length path < 2 ^ 32
    named e = named_short line path is (kept_passes (names line) (fin.keys t) i path (subst (λ (ps : List Path). i < length ps) e within) (at ∙ ap (λ (ps : List Path). get_or ps i path) e))

    first : (j : ℕ) (p : Path) → j < length (p ∷ []) → path ≡ get_or (p ∷ []) j path → path ≡ p
    first zero p within e = e
    first (suc j) p within e = absurd (omega (arith, within))

    by : (v : Taking) → taking_of line ≡ v → length path < 2 ^ 32
    by taking.Itself e = named (rw e refl)
    by taking.Whole e = named (rw e refl)
    by taking.Contents e =
        let alone : judged line t ≡ path_in line.path ∷ [] = rw e refl in
        let here : path ≡ path_in line.path = first i (path_in line.path) (subst (λ (ps : List Path). i < length ps) alone within) (at ∙ ap (λ (ps : List Path). get_or ps i path) alone) in
        subst (λ (p : Path). length p < 2 ^ 32) (sym here) (own_short line is)
    by taking.Nothing e =
        let none : judged line t ≡ [] = rw e refl in
        let no : i < length {A = Path} [] = subst (λ (ps : List Path). i < length ps) none within in absurd (omega (arith, no))
