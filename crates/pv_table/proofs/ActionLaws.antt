-- A line asks nothing of what it does not govern.
use Rattle.std.proofs.Common.{◌≡◌, ◌∙◌, sym, ap, refl, arith, suc, zero, inl, inr}
use Rattle.std.specs.Prelude.{ℕ, ◌+◌, ◌<◌, ◌≤◌, ◌⊎◌, Bool, true, false, not, cond, ◌&&◌, ◌||◌, ◌==◌, List, [], ◌∷◌, length, take, find, Option, Some, None, is_some}
use Rattle.std.specs.List.{list_any, range_with_len}
use Rattle.std.specs.Option.{option_map_or}
use Rattle.std.proofs.lemmas.Bool.{cases_lt, eqb-true, or_parts}
use Rattle.std.proofs.Math.Seq.{take-append_seam}
use Rattle.std.proofs.Math.Bool.{or-true}
use Rattle.pv_walk.specs.declared.operation.Operation.TheVariants.{Erase}
use Rattle.pv_walk.specs.declared.operation.Test.{Test}
use Rattle.pv_lines.specs.declared.line.Line.{Line}
use Rattle.pv_lines.specs.declared.line.LinePath.{LinePath}
use Rattle.pv_lines.specs.declared.line.LinePath.TheVariants.{Literal, Glob}
use Rattle.pv_lines.specs.Lines.{IsLine, IsLinePath}
use Rattle.pv_lines.specs.Types.{type_of}
use Rattle.pv_path.specs.Paths.{Path, has_staging, is_prefix, same_path, same_path-decides}
use Rattle.pv_path.proofs.PathLaws.{prefix_parts, prefix_whole, same_path-refl}
use Rattle.pv_table.specs.declared.action.Action.{Action}
use Rattle.pv_table.specs.declared.action.Action.TheVariants.{Create, Copy, Adjust, Idle}
use Rattle.pv_table.specs.declared.action.Making.{Making}
use Rattle.pv_table.specs.declared.action.Adjustment.{Adjustment}
use Rattle.pv_table.specs.Asked.{clears_below, made_at, operations}
use Rattle.pv_table.specs.ActionTable.{action_of, actions}
use Rattle.pv_table.specs.Pointwise.{adjusts_path}
use Rattle.pv_table.specs.Reaching.{governs, is_creating, is_deep, names, names_above, path_in, reaches, reaches_below}

-- ---- lines that make something have a path

abbrev is_making : Action → Bool
is_making (Create making) = true
is_making other = false

-- whether a type makes the object at its path
abbrev makes_type : ℕ → Bool
makes_type letter = option_map_or (λ row. row.creates) (type_of letter) false

-- what holds of each row of the table
abbrev Each : (ℕ × (Line → Action) → Type 0) → List (ℕ × (Line → Action)) → Type 0
Each P [] = Unit {0}
Each P (row ∷ rows) = P row × Each P rows

-- a row makes something only if its type does
abbrev Agrees : ℕ × (Line → Action) → Type 0
Agrees row = (line : Line) → is_making (row.1 line) ≡ true → makes_type row.0 ≡ true

rows_agree : Each Agrees actions
rows_agree = (
  λ line h. refl,
  (
    λ line h. refl,
    (
      λ line h. refl,
      (
        λ line h. refl,
        (
          λ line h. refl,
          (
            λ line h. refl,
            (λ line h. refl, (λ line h. refl, (λ line h. refl, (λ line h. refl, (λ line h. refl, (λ line h. cc, (λ line h. cc, (λ line h. cc, (λ line h. cc, (λ line h. cc, (λ line h. cc, (λ line h. cc, (λ line h. cc, (λ line h. cc, (λ line h. cc, tt))))))))))))))),
          ),
        ),
      ),
    ),
  ),
)

found_agrees : (rows : List (ℕ × (Line → Action))) → Each Agrees rows → (line : Line) → is_making (option_map_or (λ row. row.1 line) (find (λ row. row.0 == line.letter) rows) Idle) ≡ true → makes_type line.letter ≡ true
found_agrees [] agree line h = absurd (let no : false ≡ true = h in cc)
found_agrees (row ∷ rows) agree line h = by_test (row.0 == line.letter) refl (found_agrees rows agree.1 line) h
  where
    by_test : (b : Bool) → (row.0 == line.letter) ≡ b → (is_making (option_map_or (λ row. row.1 line) (find (λ row. row.0 == line.letter) rows) Idle) ≡ true → makes_type line.letter ≡ true)
        → is_making (option_map_or (λ row. row.1 line) (cond b (Some row) (find (λ row. row.0 == line.letter) rows)) Idle) ≡ true → makes_type line.letter ≡ true
    by_test true e rest h = ap makes_type (sym (eqb-true row.0 line.letter e)) ∙ agree.0 line h
    by_test false e rest h = rest h

at_some : {R : Type 0} (o : Option R) (r : R) → o ≡ Some r → (f : R → Bool) → option_map_or f o false ≡ true → f r ≡ true
at_some {R} o r e f h = ap (λ (x : Option R). option_map_or f x false) (sym e) ∙ h

-- a line that makes something has a path
making_has_path : (line : Line) (making : Making) → IsLine line → action_of line ≡ Create making → (path : Path) × (line.path ≡ Literal path)
making_has_path line making is asked =
    let makes : makes_type line.letter ≡ true = found_agrees actions rows_agree line (ap is_making asked) in
    let row : is.row.creates ≡ true = at_some (type_of line.letter) is.row is.is_type (λ row. row.creates) makes in
    by_path line.path refl is.fits.path row
  where
    by_path : (p : LinePath) → line.path ≡ p → IsLinePath is.row p → is.row.creates ≡ true → (path : Path) × (line.path ≡ Literal path)
    by_path (Literal path) e fits creates = (path, e)
    by_path (Glob pattern) e fits creates = absurd (let no = fits.0 in cc)

-- ---- names above

some_first : (test : ℕ → Bool) (n a k : ℕ) → a ≤ k → k < a + n → test k ≡ true → list_any test (range_with_len a n) ≡ true
some_first test zero a k low high e = absurd (omega arith)
some_first test (suc n) a k low high e = by_place (cases_lt a k) (some_first test n (a + 1) k)
  where
    by_place : (a < k) ⊎ (k ≤ a) → (a + 1 ≤ k → k < a + 1 + n → test k ≡ true → list_any test (range_with_len (a + 1) n) ≡ true) → (test a || list_any test (range_with_len (a + 1) n)) ≡ true
    by_place (inl l) rest = rw (rest (omega arith) (omega arith) e) (or-true (test a))
    by_place (inr l) rest = let same : k ≡ a = omega arith in let here : test a ≡ true = ap test (sym same) ∙ e in rw here refl

-- a line over a path names what lies below that path from above
names_above-literal : (line : Line) (path q : Path) → line.path ≡ Literal path → is_prefix path q ≡ true → same_path path q ≡ false → names_above line q ≡ true
names_above-literal line path q is under other =
    let w = prefix_parts path q under in
    let front : take (length path) q ≡ path = ap (take (length path)) w.1 ∙ take-append_seam path w.0 in
    let named : names line (take (length path) q) ≡ true = rw (is, front) (same_path-refl path) in
    some_first (λ k. names line (take k q)) (length q) 0 (length path) (omega arith) (by_length (cases_lt (length path) (length q))) named
  where
    by_length : (length path < length q) ⊎ (length q ≤ length path) → length path < 0 + length q
    by_length (inl l) = omega arith
    by_length (inr l) = absurd (let same : same_path path q ≡ true = (same_path-decides path q).1 (prefix_whole path q under l) in cc)

-- ---- what is not governed

-- a line that makes something
made_at-elsewhere : (line : Line) (making : Making) (path q : Path) → action_of line ≡ Create making → line.path ≡ Literal path → governs line q ≡ false → made_at making path q ≡ []
made_at-elsewhere line making path q asked is none =
    let u = or_parts (reaches line q) (is_creating line && is_prefix q (path_in line.path)) none in
    let v = or_parts (names line q) (reaches_below line && names_above line q) u.0 in
    let other : same_path path q ≡ false = rw is at v.0 in
    let beside : is_prefix q path ≡ false = rw is at u.1 in
    rw (other, beside) (by_test (is_prefix path q) refl (clears_below making) refl (both_false (reaches_below line) (names_above line q) v.1) other)
  where
    both_false : (a b : Bool) → (a && b) ≡ false → b ≡ true → a ≡ false
    both_false true b e f = cc
    both_false false b e f = refl

    first_of_five : (a b c d e : Bool) → (a || b || c || d || e) ≡ false → a ≡ false
    first_of_five true b c d e h = cc
    first_of_five false b c d e h = refl

    renews : (o : Option Test) → making.renew ≡ o → clears_below making ≡ true → is_some making.renew ≡ true
    renews None e h = absurd (let no : false ≡ true = rw e at h in cc)
    renews (Some test) e h = rw e refl

    by_test : (b : Bool) → is_prefix path q ≡ b → (c : Bool) → clears_below making ≡ c → (names_above line q ≡ true → reaches_below line ≡ false) → same_path path q ≡ false
        → cond (b && c) (Erase ∷ []) [] ≡ []
    by_test true under true clears above other =
        let none : reaches_below line ≡ false = above (names_above-literal line path q is under other) in
        let shallow : is_deep (action_of line) ≡ false = first_of_five _ _ _ _ _ none in
        let deep : is_deep (action_of line) ≡ true = ap is_deep asked ∙ renews making.renew refl clears in
        cc
    by_test true under false clears above other = refl
    by_test false under c clears above other = refl

adjusts_path-elsewhere : (line : Line) (adjustment : Adjustment) (q : Path) → action_of line ≡ Adjust adjustment → governs line q ≡ false → adjusts_path line adjustment q ≡ false
adjusts_path-elsewhere line adjustment q asked none =
    let u = or_parts (reaches line q) (is_creating line && is_prefix q (path_in line.path)) none in
    let v = or_parts (names line q) (reaches_below line && names_above line q) u.0 in
    rw v.0 (by_deep adjustment.deep refl (names_above line q) v.1)
  where
    deep_below : adjustment.deep ≡ true → reaches_below line ≡ true
    deep_below deep = let is : is_deep (action_of line) ≡ true = ap is_deep asked ∙ deep in rw is refl

    by_deep : (b : Bool) → adjustment.deep ≡ b → (a : Bool) → (reaches_below line && a) ≡ false → (b && a && not (has_staging q)) ≡ false
    by_deep true deep true h = absurd (let no : true ≡ false = rw (deep_below deep) at h in cc)
    by_deep true deep false h = refl
    by_deep false deep a h = refl

pub nothing_asked : (line : Line) (q : Path) → IsLine line → governs line q ≡ false → operations line q ≡ []
nothing_asked line q is none = by_action (action_of line) refl
  where
    by_action : (d : Action) → action_of line ≡ d → operations line q ≡ []
    by_action (Create making) asked =
        let w = making_has_path line making is asked in
        let path : path_in line.path ≡ w.0 = ap path_in w.1 in
        rw (asked, path) (made_at-elsewhere line making w.0 q asked w.1 none)
    by_action (Copy copying) asked = rw asked refl
    by_action (Adjust adjustment) asked = rw (asked, adjusts_path-elsewhere line adjustment q asked none) refl
    by_action Idle asked = rw asked refl
