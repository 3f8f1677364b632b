-- What a removal that leaves nothing unfinished does not take, no removal takes of any tree where it stands; and what
-- removing leaves of a tree is a tree.
use Rattle.std.specs.Prelude.{◌≡◌, ℕ, ◌+◌, ◌^◌, ◌<◌, Bool, true, false, cond, not, ◌&&◌, ◌||◌, ◌==◌, List, [], ◌∷◌, ◌++◌, length, take, filter, Option, Some, None, is_some, is_none, option_map}
use Rattle.std.proofs.Common.{refl, sym, ap, subst, ◌∙◌, arith, length-append, append_assoc, append-nil}
use Rattle.std.specs.List.{AllByRecursion, Any, list_any, range_with_len}
use Rattle.std.specs.FinMap as fin
use Rattle.std.specs.Option.{option_map_or}
use Rattle.std.proofs.lemmas.Bool.{and_parts, and_from, false_from_ne_true, or_parts}
use Rattle.std.proofs.lemmas.List.Folds.{list_any_at, Any-from_list_any}
use Rattle.std.proofs.lemmas.Option.{same_Some}
use Rattle.std.proofs.Math.Seq.{take-append_seam}
use Rattle.pv_lines.specs.declared.line.Line.{Line}
use Rattle.pv_lines.specs.declared.line.LinePath.{LinePath}
use Rattle.pv_lines.specs.declared.line.LinePath.TheVariants.{Literal, Glob}
use Rattle.pv_lines.specs.Lines.{IsLine, IsLinePath}
use Rattle.pv_path.specs.Paths.{Path, is_prefix, parent_of, same_path-decides}
use Rattle.pv_path.proofs.PathLaws.{is_prefix-refl, parent_of-is_prefix, prefix_parts}
use Rattle.pv_path.proofs.Tests.{true_not_false}
use Rattle.pv_steps.specs.declared.object.Object.{Object}
use Rattle.pv_steps.specs.Objects.{is_directory, modified, IsObject}
use Rattle.pv_steps.specs.Same.{object_states}
use Rattle.pv_steps.specs.Trees.{Files, places, kind_of, IsTree}
use Rattle.pv_steps.proofs.ObjectLaws.{IsObject-modified}
use Rattle.pv_steps.proofs.TreeLaws.{present_above, directory_above}
use Rattle.pv_walk.specs.Whole.{goes_whole, all_at}
use Rattle.pv_walk.proofs.WholeLaws.{goes_parts, goes_from, all_at-each, each-all_at}
use Rattle.pv_walk.specs.Removal.{loses_child}
use Rattle.pv_table.specs.declared.taking.Taking.{Taking}
use Rattle.pv_table.specs.declared.taking.Taking.TheVariants as taking
use Rattle.pv_table.specs.ActionTable.{taking_of}
use Rattle.pv_table.specs.Reaching.{names, names_in, path_in}
use Rattle.pv_table.specs.Removed.{covers, files_without, is_directory_at, is_gone, is_named, is_unfinished, judged, keeps, refused_place, removed}
use Rattle.pv_table.proofs.QuietLaws.{kind_object_state, present_object_state}
use Rattle.pv_remove.proofs.CoverLaws.{at_place, from_range, in_any, key_there, take_rest_of}
use Rattle.pv_table.proofs.GoingLaws.{in_range, places-without, goes_below}
use Rattle.pv_remove.proofs.InputLaws.{emptying_makes}
use Rattle.pv_remove.proofs.StopLaws.{object_states-without}

-- D names its own path alone
own_path : (line : Line) → IsLine line → taking_of line ≡ taking.Contents → (p : Path) → names line p ≡ true → path_in line.path ≡ p
own_path line is e p = by line.path is.fits.path
  where
    by : (lp : LinePath) → IsLinePath is.row lp → names_in lp p ≡ true → path_in lp ≡ p
    by (Literal path) fits named = (same_path-decides path p).0 named
    by (Glob pattern) fits named = absurd (true_not_false is.row.creates (emptying_makes line is e) fits.0)

-- ---- a removal that leaves nothing unfinished

module _ (lines : List Line) (are : AllByRecursion IsLine lines) (t : Files) (tree : IsTree t) (whole : is_unfinished lines t ≡ false) where
  abbrev covered : Path → Bool
  covered r = list_any (λ line. covers line (places t) r) lines

  -- a line is refused at a path, or leaves it
  abbrev is_open : Line → Path → Bool
  is_open line p = is_some (refused_place line (places t) p) || keeps lines line t p

  module _ (line : Line) (closed : list_any (is_open line) (judged line t) ≡ false) where
    -- what is there and named is judged, except for D
    closed_at : judged line t ≡ filter (names line) (fin.keys t) → (p : Path) → names line p ≡ true → is_some (places t p) ≡ true → is_open line p ≡ false
    closed_at e p named there = false_from_ne_true (is_open line p) (λ h.
        true_not_false (list_any (is_open line) (judged line t)) (ap (list_any (is_open line)) e ∙ in_any (names line) (is_open line) (fin.keys t) p (key_there t tree line p p there) named h) closed)

    -- there the line is not refused
    unrefused : (p : Path) → is_open line p ≡ false → is_none (refused_place line (places t) p) ≡ true
    unrefused p h = by (refused_place line (places t) p) (or_parts (is_some (refused_place line (places t) p)) (keeps lines line t p) h).0
      where
        by : {A : Type 0} (o : Option A) → is_some o ≡ false → is_none o ≡ true
        by None e = refl
        by (Some x) e = cc

    module _ (q : Path) (there : is_some (places t q) ≡ true) (below_root : not (length q == 0) ≡ true) (any : (r : Path) → covers line (places t) r ≡ true → covered r ≡ true) where
      -- where all at and below it is covered, it goes
      goes_by : ((r : Path) → is_some (places t r) ≡ true → is_prefix q r ≡ true → covers line (places t) r ≡ true) → is_gone lines t q ≡ true
      goes_by each = goes_from covered t q there below_root (each-all_at covered t q (λ r at under. any r (each r at under)))

      -- what lies below no directory is the path itself
      alone : is_directory_at (places t) q ≡ false → (r : Path) → is_some (places t r) ≡ true → is_prefix q r ≡ true → r ≡ q
      alone none r at under = let parts = prefix_parts q r under in by parts.0 parts.1
        where
          by : (rest : Path) → r ≡ q ++ rest → r ≡ q
          by [] e = e ∙ append-nil q
          by (name ∷ rest) e = absurd (true_not_false (is_directory_at (places t) q)
              (ap (λ k. option_map_or is_directory k false) (directory_above (places t) tree q name rest (subst (λ (p : Path). is_some (places t p) ≡ true) e at))) none)

      itself : taking_of line ≡ taking.Itself → names line q ≡ true → is_gone lines t q ≡ true
      itself e named = by (is_directory_at (places t) q) refl (is_gone lines t q) refl
        where
          open_not : is_open line q ≡ false
          open_not = closed_at (rw e refl) q named there

          kept_not : keeps lines line t q ≡ false
          kept_not = (or_parts (is_some (refused_place line (places t) q)) (keeps lines line t q) open_not).1

          kept_is : keeps lines line t q ≡ (is_directory_at (places t) q && not (is_gone lines t q))
          kept_is = rw e refl

          by : (d : Bool) → is_directory_at (places t) q ≡ d → (g : Bool) → is_gone lines t q ≡ g → is_gone lines t q ≡ true
          by d f true h = h
          by true f false h = absurd (true_not_false (keeps lines line t q) (kept_is ∙ ap (λ b. b && not (is_gone lines t q)) f ∙ ap not h) kept_not)
          by false f false h = goes_by (λ r at under. subst (λ (p : Path). covers line (places t) p ≡ true) (sym (alone f r at under))
              (let named_there : is_named line (places t) q ≡ true = and_from (names line q) (is_none (refused_place line (places t) q)) named (unrefused q open_not) in
              let is : covers line (places t) q ≡ is_named line (places t) q = rw e refl in is ∙ named_there))

      -- what the line names along the path is there, too
      module _ (k : ℕ) (within : k < length q + 1) where
        abbrev first : Path
        first = take k q

        first_there : is_some (places t first) ≡ true
        first_there = let rest = take_rest_of k q (omega (arith, within)) in
            present_above (places t) tree first rest.0 (subst (λ (p : Path). is_some (places t p) ≡ true) rest.1 there)

        -- and it lies along all paths below
        along : (r : Path) → is_prefix q r ≡ true → take k r ≡ first
        along r under =
            let parts = prefix_parts q r under in
            let rest = take_rest_of k q (omega (arith, within)) in
            let split : r ≡ first ++ (rest.0 ++ parts.0) = parts.1 ∙ ap (λ (p : Path). p ++ parts.0) rest.1 ∙ append_assoc first rest.0 parts.0 in
            ap (λ (n : ℕ). take n r) (sym rest.2) ∙ ap (take (length first)) split ∙ take-append_seam first (rest.0 ++ parts.0)

        -- so what it names there covers all of them
        named_along : names line first ≡ true → is_open line first ≡ false → (r : Path) → is_prefix q r ≡ true → is_named line (places t) (take k r) ≡ true
        named_along named open_not r under =
            ap (is_named line (places t)) (along r under)
            ∙ and_from (names line first) (is_none (refused_place line (places t) first)) named (unrefused first open_not)

        as_long : (r : Path) → is_prefix q r ≡ true → k < length r + 1
        as_long r under = let parts = prefix_parts q r under in omega (arith, within, ap length parts.1, length-append q parts.0)

        wholly : taking_of line ≡ taking.Whole → names line first ≡ true → is_gone lines t q ≡ true
        wholly e named = goes_by (λ r at under.
            let is : covers line (places t) r ≡ list_any (λ j. is_named line (places t) (take j r)) (range_with_len 0 (length r + 1)) = rw e refl in
            is ∙ in_range (λ j. is_named line (places t) (take j r)) (length r + 1) k (as_long r under) (named_along named (closed_at (rw e refl) first named first_there) r under))

        emptied : taking_of line ≡ taking.Contents → k < length q → path_in line.path ≡ first → names line first ≡ true → is_gone lines t q ≡ true
        emptied e less own named = goes_by (λ r at under.
            let is : covers line (places t) r ≡ list_any (λ j. is_named line (places t) (take j r) && is_directory_at (places t) (take j r)) (range_with_len 0 (length r)) = rw e refl in
            let parts = prefix_parts q r under in
            is ∙ in_range (λ j. is_named line (places t) (take j r) && is_directory_at (places t) (take j r)) (length r) k (omega (arith, less, ap length parts.1, length-append q parts.0))
            (and_from (is_named line (places t) (take k r)) (is_directory_at (places t) (take k r)) (named_along named open_not r under)
            (ap (is_directory_at (places t)) (along r under) ∙ directory)))
          where
            open_not : is_open line first ≡ false
            open_not =
                let only : judged line t ≡ path_in line.path ∷ [] = rw e refl in
                (or_parts (is_open line first) false (sym (ap (list_any (is_open line)) (only ∙ ap (λ (p : Path). p ∷ []) own)) ∙ closed)).0

            below : (rest : Path) → q ≡ first ++ rest → length first ≡ k → is_directory_at (places t) first ≡ true
            below [] f long = absurd (omega (arith, less, ap length f, length-append first [], long))
            below (name ∷ rest) f long = ap (λ d. option_map_or is_directory d false) (directory_above (places t) tree first name rest (subst (λ (p : Path). is_some (places t p) ≡ true) f there))

            directory : is_directory_at (places t) first ≡ true
            directory = let rest = take_rest_of k q (omega (arith, within)) in below rest.0 rest.1 rest.2

  -- what goes of some tree and is there goes
  module _ (u : Files) (q : Path) (gone : is_gone lines u q ≡ true) (there : is_some (places t q) ≡ true) where
    pub goes_too : is_gone lines t q ≡ true
    goes_too = by (taking_of line) refl
      where
        parts : (is_some (places u q) ≡ true) × (not (length q == 0) ≡ true) × (all_at (λ r. list_any (λ l. covers l (places u) r) lines) u q ≡ true)
        parts = goes_parts (λ r. list_any (λ l. covers l (places u) r) lines) u q gone

        found : Any (λ (l : Line). covers l (places u) q ≡ true) lines
        found = Any-from_list_any (λ l. covers l (places u) q) lines (all_at-each (λ r. list_any (λ l. covers l (places u) r) lines) u q parts.2 q parts.0 (is_prefix-refl q))

        line : Line
        line = found.1

        is : IsLine line
        is = at_place IsLine lines found.0 line are found.2 (sym found.3)

        covers_it : covers line (places u) q ≡ true
        covers_it = found.4

        closed : list_any (is_open line) (judged line t) ≡ false
        closed = false_from_ne_true (list_any (is_open line) (judged line t)) (λ h.
            true_not_false (is_unfinished lines t) (list_any_at (λ l. list_any (is_open l) (judged l t)) lines found.0 line found.2 (ap (λ l. list_any (is_open l) (judged l t)) found.3 ∙ h)) whole)

        any : (r : Path) → covers line (places t) r ≡ true → covered r ≡ true
        any r h = list_any_at (λ l. covers l (places t) r) lines found.0 line found.2 (ap (λ l. covers l (places t) r) found.3 ∙ h)

        by : (v : Taking) → taking_of line ≡ v → is_gone lines t q ≡ true
        by taking.Itself e =
            let named : is_named line (places u) q ≡ true = rw e at covers_it in
            itself line closed q there parts.1 any e (and_parts (names line q) (is_none (refused_place line (places u) q)) named).0
        by taking.Whole e =
            let some : list_any (λ k. is_named line (places u) (take k q)) (range_with_len 0 (length q + 1)) ≡ true = rw e at covers_it in
            let at = from_range (λ k. is_named line (places u) (take k q)) (length q + 1) some in
            wholly line closed q there parts.1 any at.0 at.1 e (and_parts (names line (take at.0 q)) (is_none (refused_place line (places u) (take at.0 q))) at.2).0
        by taking.Contents e =
            let some : list_any (λ k. is_named line (places u) (take k q) && is_directory_at (places u) (take k q)) (range_with_len 0 (length q)) ≡ true = rw e at covers_it in
            let at = from_range (λ k. is_named line (places u) (take k q) && is_directory_at (places u) (take k q)) (length q) some in
            let named = (and_parts (names line (take at.0 q)) (is_none (refused_place line (places u) (take at.0 q)))
            (and_parts (is_named line (places u) (take at.0 q)) (is_directory_at (places u) (take at.0 q)) at.2).0).0 in
            emptied line closed q there parts.1 any at.0 (omega (arith, at.1)) e at.1 (own_path line is e (take at.0 q) named) named
        by taking.Nothing e = absurd (let none : covers line (places u) q ≡ false = rw e refl in true_not_false (covers line (places u) q) covers_it none)

-- ---- what removing leaves of a tree

module _ (test : Path → Bool) (now : ℕ) (fits : now < 2 ^ 64) (t : Files) (tree : IsTree t) where
  abbrev goes : Path → Bool
  goes = goes_whole test t

  abbrev left : Files
  left = files_without goes (modified now) t

  object_state_left : (q : Path) → goes q ≡ false → object_states (places left) q ≡ object_states (places t) q
  object_state_left q h = object_states-without goes (modified now) (λ o. refl) t q ∙ ap (λ b. cond b None (object_states (places t) q)) h

  kind_left : (q : Path) → goes q ≡ false → kind_of (places left q) ≡ kind_of (places t q)
  kind_left q h = kind_object_state (places left q) ∙ ap kind_of (object_state_left q h) ∙ sym (kind_object_state (places t q))

  stays : (q : Path) → is_some (places left q) ≡ true → goes q ≡ false
  stays q there = false_from_ne_true (goes q) (λ h.
      let none : is_some (object_states (places left) q) ≡ false = ap is_some (object_states-without goes (modified now) (λ o. refl) t q ∙ ap (λ b. cond b None (object_states (places t) q)) h) in
      true_not_false (is_some (places left q)) there (present_object_state (places left q) ∙ none))

  was : (q : Path) → is_some (places left q) ≡ true → is_some (places t q) ≡ true
  was q there = present_object_state (places t q) ∙ sym (ap is_some (object_state_left q (stays q there))) ∙ sym (present_object_state (places left q)) ∙ there

  whole_object : (q : Path) (o : Object) → places left q ≡ Some o → IsObject o
  whole_object q o e = by (goes q) (loses_child goes t q) (places t q) refl (sym (places-without goes (modified now) t q) ∙ e)
    where
      by : (g l : Bool) (x : Option Object) → places t q ≡ x → cond g None (cond l (option_map (modified now) x) x) ≡ Some o → IsObject o
      by true l x at f = absurd cc
      by false true None at f = absurd cc
      by false false None at f = absurd cc
      by false true (Some x) at f = subst IsObject (same_Some (modified now x) o f) (IsObject-modified now fits x (tree.objects q x at))
      by false false (Some x) at f = subst IsObject (same_Some x o f) (tree.objects q x at)

  pub left_tree : IsTree left
  left_tree = record {
    root = kind_left [] (false_from_ne_true (goes []) (λ h. let no : false ≡ true = (goes_parts test t [] h).1 in absurd cc)) ∙ tree.root;
    parents = λ q there below.
        let over : goes (parent_of q) ≡ false = false_from_ne_true (goes (parent_of q)) (λ h.
        true_not_false (goes q) (goes_below test t (parent_of q) q h (parent_of-is_prefix q) (was q there)) (stays q there)) in
        kind_left (parent_of q) over ∙ tree.parents q (was q there) below;
    names = λ q there. tree.names q (was q there);
    objects = whole_object;
  }

pub removed_tree : (lines : List Line) (now : ℕ) (t : Files) → now < 2 ^ 64 → IsTree t → IsTree (removed lines now t)
removed_tree lines now t fits tree = left_tree (λ q. list_any (λ line. covers line (places t) q) lines) now fits t tree
