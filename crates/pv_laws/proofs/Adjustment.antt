-- What a line that adjusts what is there, and is refused at no path, leaves at each path by itself, timestamps aside.
use Rattle.std.specs.Prelude.{◌≡◌, ◌⊎◌, ℕ, ◌+◌, ◌-◌, ◌≤◌, ◌<◌, Bool, true, false, not, cond, ◌&&◌, ◌||◌, List, [], ◌∷◌, length, take, filter, fold, Option, Some, None, is_some, option_map}
use Rattle.std.proofs.Common.{zero, suc, refl, sym, ap, subst, ◌∙◌, arith, inl, inr}
use Rattle.std.proofs.lemmas.List.{length-take}
use Rattle.std.proofs.Math.Seq.{take-append_seam}
use Rattle.std.specs.FinMap as fin
use Rattle.std.specs.List.{list_any, list_all, range_with_len}
use Rattle.std.proofs.lemmas.Bool.{or_parts, or_right, or_cases, and_parts}
use Rattle.pv_path.specs.Paths.{Path, same_path, is_prefix, has_staging, same_path-decides}
use Rattle.pv_path.proofs.PathLaws.{same_path-refl, prefix_parts, prefix_whole, is_prefix-take}
use Rattle.pv_steps.specs.declared.object.Object.{Object}
use Rattle.pv_steps.specs.Trees.{Files, places}
use Rattle.pv_steps.proofs.StepLaws.{places-tabulate, among_keys}
use Rattle.pv_walk.specs.declared.object_state.ObjectState.{ObjectState}
use Rattle.pv_walk.specs.Nodes.{object_state_of, object_states_of}
use Rattle.pv_walk.specs.Operations.{run}
use Rattle.pv_walk.proofs.EditLaws.{path_cases}
use Rattle.pv_walk.proofs.OperationLaws.{run-twice}
use Rattle.pv_lines.specs.declared.line.Line.{Line}
use Rattle.pv_walk.specs.Listing.{times}
use Rattle.pv_walk.proofs.CountLaws.{times-filter, times-keys, same_or_not}
use Rattle.pv_walk.proofs.RemovalLaws.{zero_or_more}
use Rattle.pv_table.specs.declared.action.Action.{Action}
use Rattle.pv_table.specs.declared.action.Action.TheVariants.{Adjust}
use Rattle.pv_table.specs.declared.action.Adjustment.{Adjustment}
use Rattle.pv_table.specs.ActionTable.{action_of}
use Rattle.pv_table.specs.Created.{by_turn}
use Rattle.pv_steps.specs.Doing.{after_each, one_is_refused}
use Rattle.pv_table.specs.Effects.{become, carried_out, is_adjusted, adjust_at, turn_after}
use Rattle.pv_table.specs.Pointwise.{adjusts_path}
use Rattle.pv_table.specs.Reaching.{names, names_above}
use Rattle.pv_table.specs.Repeatable.{sets_of}
use Rattle.pv_table.specs.Turns.{refused_at}
use Rattle.pv_laws.proofs.Comparing.{become-object_state}
use Rattle.pv_laws.proofs.Making.{IsShaped, dir_there}
use Rattle.pv_laws.proofs.Prepared.{object_state_some}
use Rattle.pv_laws.proofs.Sets.{impossible, is_adjustment, adjusted_none, asked, sets_adjust, deep_repeatable}
use Rattle.pv_path.proofs.Tests.{same_tests, true_not_false, none_of}

-- ---- a turn that is not refused

-- a line that is not refused at a path is carried out there
pub turn_open : (now : ℕ) (line : Line) (path : Path) (t : Files) → refused_at line path (places t) ≡ None → turn_after now line path t ≡ carried_out now (action_of line) path t
turn_open now line path t e = rw e

-- the first of several turns, and those after it
pub first_turn : (now : ℕ) (line : Line) (path : Path) (paths : List Path) (t : Files) → one_is_refused (by_turn now line) (path ∷ paths) t ≡ false
    → (refused_at line path (places t) ≡ None) × (one_is_refused (by_turn now line) paths (turn_after now line path t) ≡ false)
first_turn now line path paths t quiet =
    let two = or_parts (is_some (refused_at line path (places t))) (one_is_refused (by_turn now line) paths (turn_after now line path t)) quiet in
    (none_of (refused_at line path (places t)) two.0, two.1)

-- ---- one turn

module _ (now : ℕ) (adjustment : Adjustment) (adjust : list_all is_adjustment adjustment.sets ≡ true) where
  -- what is set at a path, where the turn reaches it
  abbrev pub set_if : Bool → Option ObjectState → Option ObjectState
  set_if reached b = cond reached (run adjustment.sets b) b

  adjust_key : (reached : Bool) (o : Option Object) → is_some (cond reached (option_map (become now adjustment.sets) o) o) ≡ is_some o
  adjust_key reached o = grind arith

  touched_object_state : (reached : Bool) (o : Option Object) → option_map object_state_of (cond reached (option_map (become now adjustment.sets) o) o) ≡ set_if reached (option_map object_state_of o)
  touched_object_state true None = sym (adjusted_none adjustment.sets adjust)
  touched_object_state true (Some x) = become-object_state now adjustment.sets adjust x
  touched_object_state false o = refl

  pub adjust_point : (path : Path) (t : Files) (q : Path) → object_states_of (places (adjust_at now adjustment path t)) q ≡ set_if (is_adjusted adjustment path q) (object_states_of (places t) q)
  adjust_point path t q =
      ap (option_map object_state_of) (places-tabulate (fin.keys t) (λ q. cond (is_adjusted adjustment path q) (option_map (become now adjustment.sets) (places t q)) (places t q)) q
      (λ h. among_keys t q ∙ sym (adjust_key (is_adjusted adjustment path q) (places t q)) ∙ h))
      ∙ touched_object_state (is_adjusted adjustment path q) (places t q)

  -- ---- several turns

  -- what they set at a path, one after the other
  abbrev pub set_by_each : Path → List Path → Option ObjectState → Option ObjectState
  set_by_each q paths b = fold (λ c p. set_if (is_adjusted adjustment p q) c) b paths

  pub touched_all : (line : Line) → action_of line ≡ Adjust adjustment → (paths : List Path) (t : Files) → one_is_refused (by_turn now line) paths t ≡ false
      → (q : Path) → object_states_of (places (after_each (by_turn now line) paths t)) q ≡ set_by_each q paths (object_states_of (places t) q)
  touched_all line e [] t quiet q = refl
  touched_all line e (p ∷ ps) t quiet q =
      let two = first_turn now line p ps t quiet in
      touched_all line e ps (turn_after now line p t) two.1 q
      ∙ ap (λ (u : Files). set_by_each q ps (object_states_of (places u) q)) (turn_open now line p t two.0 ∙ ap (λ (d : Action). carried_out now d p t) e)
      ∙ ap (set_by_each q ps) (adjust_point p t q)

  set_none : (q : Path) (paths : List Path) → set_by_each q paths None ≡ None
  set_none q [] = refl
  set_none q (p ∷ ps) = ap (set_by_each q ps) (by (is_adjusted adjustment p q)) ∙ set_none q ps
    where
      by : (b : Bool) → set_if b None ≡ None
      by true = adjusted_none adjustment.sets adjust
      by false = refl

  -- where twice is once, it only matters whether one of them reaches the path
  module _ (twice : (b : Option ObjectState) → run adjustment.sets (run adjustment.sets b) ≡ run adjustment.sets b) where
    pub set_by_any : (q : Path) (paths : List Path) (b : Option ObjectState) → set_by_each q paths b ≡ set_if (list_any (λ p. is_adjusted adjustment p q) paths) b
    set_by_any q [] b = refl
    set_by_any q (p ∷ ps) b = by (is_adjusted adjustment p q) (set_by_any q ps)
      where
        once : (a : Bool) (c : Option ObjectState) → set_if a (run adjustment.sets c) ≡ run adjustment.sets c
        once true c = twice c
        once false c = refl

        by : (r : Bool) → ((c : Option ObjectState) → set_by_each q ps c ≡ set_if (list_any (λ p. is_adjusted adjustment p q) ps) c)
            → set_by_each q ps (set_if r b) ≡ set_if (r || list_any (λ p. is_adjusted adjustment p q) ps) b
        by true rest = rest (run adjustment.sets b) ∙ once (list_any (λ p. is_adjusted adjustment p q) ps) b
        by false rest = rest b

  -- where each turn reaches its own path alone, it matters how often the path stands among them
  module _ (shallow : adjustment.deep ≡ false) where
    pub own_path : (p q : Path) → is_adjusted adjustment p q ≡ same_path p q
    own_path p q = ap (λ d. same_path p q || (d && is_prefix p q && not (has_staging q))) shallow ∙ (grind arith)

    pub set_never : (q : Path) (paths : List Path) (b : Option ObjectState) → times q paths ≡ 0 → set_by_each q paths b ≡ b
    set_never q [] b e = refl
    set_never q (p ∷ ps) b e = elim (same_or_not p q) [
      | inl s ↦ absurd (let n = ap (λ c. cond c 1 0 + times q ps) s.1 in omega (arith, e, n))
      | inr d ↦
          ap (λ c. set_by_each q ps (set_if c b)) (own_path p q ∙ d)
          ∙ set_never q ps b (let n = ap (λ c. cond c 1 0 + times q ps) d in omega (arith, e, n))
    ]

    set_once : (q : Path) (paths : List Path) (b : Option ObjectState) → times q paths ≡ 1 → set_by_each q paths b ≡ run adjustment.sets b
    set_once q [] b e = absurd (omega (arith, e))
    set_once q (p ∷ ps) b e = elim (same_or_not p q) [
      | inl s ↦
          ap (λ c. set_by_each q ps (set_if c b)) (own_path p q ∙ s.1)
          ∙ set_never q ps (run adjustment.sets b) (let n = ap (λ c. cond c 1 0 + times q ps) s.1 in omega (arith, e, n))
      | inr d ↦
          ap (λ c. set_by_each q ps (set_if c b)) (own_path p q ∙ d)
          ∙ set_once q ps b (let n = ap (λ c. cond c 1 0 + times q ps) d in omega (arith, e, n))
    ]

-- ---- lists and ranges

pub any_range : (f : ℕ → Bool) (a n k : ℕ) → a ≤ k → k < a + n → f k ≡ true → list_any f (range_with_len a n) ≡ true
any_range f a zero k le lt h = absurd (omega (arith, le, lt))
any_range f a (suc n) k le lt h = by (zero_or_more (k - a)) (any_range f (a + 1) n k)
  where
    by : (k - a ≡ 0) ⊎ (1 ≤ k - a) → (a + 1 ≤ k → k < a + 1 + n → f k ≡ true → list_any f (range_with_len (a + 1) n) ≡ true) → (f a || list_any f (range_with_len (a + 1) n)) ≡ true
    by (inl z) later = let same : a ≡ k = omega (arith, z, le) in ap (λ b. b || list_any f (range_with_len (a + 1) n)) (ap f same ∙ h)
    by (inr m) later = or_right (f a) (list_any f (range_with_len (a + 1) n)) (later (omega (arith, m)) (omega (arith, lt)) h)

-- a path that a line names lies above another
pub named_above : (line : Line) (p q : Path) → names line p ≡ true → is_prefix p q ≡ true → same_path p q ≡ false → names_above line q ≡ true
named_above line p q named above other = any_range (λ k. names line (take k q)) 0 (length q) (length p) (omega arith) shorter (ap (names line) cut ∙ named)
  where
    cut : take (length p) q ≡ p
    cut = let parted = prefix_parts p q above in ap (take (length p)) parted.1 ∙ take-append_seam p parted.0

    shorter : length p < 0 + length q
    shorter = at (zero_or_more (length q - length p))
      where
        at : (length q - length p ≡ 0) ⊎ (1 ≤ length q - length p) → length p < 0 + length q
        at (inl z) = absurd (true_not_false (same_path p q) ((same_path-decides p q).1 (prefix_whole p q above (omega (arith, z)))) other)
        at (inr m) = omega (arith, m)

pub in_range : (f : ℕ → Bool) (a n : ℕ) → list_any f (range_with_len a n) ≡ true → (k : ℕ) × (a ≤ k) × (k < a + n) × (f k ≡ true)
in_range f a zero h = impossible h
in_range f a (suc n) h = by (f a) refl (in_range f (a + 1) n) h
  where
    by : (b : Bool) → f a ≡ b → (list_any f (range_with_len (a + 1) n) ≡ true → (k : ℕ) × (a + 1 ≤ k) × (k < a + 1 + n) × (f k ≡ true)) → (b || list_any f (range_with_len (a + 1) n)) ≡ true → (k : ℕ) × (a ≤ k) × (k < a + suc n) × (f k ≡ true)
    by true e later g = (a, omega arith, omega arith, e)
    by false e later g = let found = later g in (found.0, omega (arith, found.1), omega (arith, found.2), found.3)

any_kept : (f g : Path → Bool) (q : Path) (xs : List Path) → 1 ≤ times q xs → g q ≡ true → f q ≡ true → list_any f (filter g xs) ≡ true
any_kept f g q [] le kept h = absurd (omega (arith, le))
any_kept f g q (x ∷ xs) le kept h = elim (same_or_not x q) [
  | inl s ↦
      ap (λ (p : Path). list_any f (cond (g p) (p ∷ filter g xs) (filter g xs))) s.0
      ∙ ap (λ b. list_any f (cond b (q ∷ filter g xs) (filter g xs))) kept ∙ ap (λ b. b || list_any f (filter g xs)) h
  | inr d ↦ by (g x) (any_kept f g q xs (let n = ap (λ c. cond c 1 0 + times q xs) d in omega (arith, le, n)) kept h)
]
  where
    by : (b : Bool) → list_any f (filter g xs) ≡ true → list_any f (cond b (x ∷ filter g xs) (filter g xs)) ≡ true
    by true e = ap (λ b. f x || b) e ∙ elim (f x) as (λ b. (b || true) ≡ true) [ true ↦ refl | false ↦ refl ]
    by false e = e

pub kept_any : (f g : Path → Bool) (xs : List Path) → list_any f (filter g xs) ≡ true → (p : Path) × (g p ≡ true) × (f p ≡ true)
kept_any f g [] h = impossible h
kept_any f g (x ∷ xs) h = by (g x) refl (kept_any f g xs) h
  where
    by : (b : Bool) → g x ≡ b → (list_any f (filter g xs) ≡ true → (p : Path) × (g p ≡ true) × (f p ≡ true)) → list_any f (cond b (x ∷ filter g xs) (filter g xs)) ≡ true → (p : Path) × (g p ≡ true) × (f p ≡ true)
    by false e later i = later i
    by true e later i = at (f x) refl i
      where
        at : (c : Bool) → f x ≡ c → (c || list_any f (filter g xs)) ≡ true → (p : Path) × (g p ≡ true) × (f p ≡ true)
        at true k j = (x, e, k)
        at false k j = later j

-- ---- a line at all paths that it names

module _ (now : ℕ) (line : Line) (adjustment : Adjustment) (e : action_of line ≡ Adjust adjustment) (t : Files) (shape : IsShaped (object_states_of (places t))) where
  pub adjusts : list_all is_adjustment adjustment.sets ≡ true
  adjusts = subst (λ d. list_all is_adjustment (sets_of d) ≡ true) e (sets_adjust line (action_of line) (asked line))

  -- the paths at which it is carried out
  abbrev pub named : List Path
  named = filter (names line) (fin.keys t)

  pub once_named : (q : Path) → times q named ≡ cond (names line q) (cond (is_some (places t q)) 1 0) 0
  once_named q = times-filter (names line) q (fin.keys t) ∙ ap (λ n. cond (names line q) n 0) (times-keys t q)

  listed : (q : Path) → is_some (object_states_of (places t) q) ≡ true → 1 ≤ times q (fin.keys t)
  listed q there = let n = times-keys t q ∙ ap (λ b. cond b 1 0) (sym (object_state_some (places t q)) ∙ there) in omega (arith, n)

  module _ (q : Path) (plain : has_staging q ≡ false) where
    adjusts_below : adjustment.deep ≡ true → names_above line q ≡ true → adjusts_path line adjustment q ≡ true
    adjusts_below deep h =
        ap (λ d. names line q || (d && names_above line q && not (has_staging q))) deep
        ∙ ap (λ b. names line q || (b && not (has_staging q))) h
        ∙ ap (λ b. names line q || not b) plain
        ∙ elim (names line q) as (λ b. (b || true) ≡ true) [ true ↦ refl | false ↦ refl ]

    -- what a turn at one of them reaches, the line touches
    pub to_adjusts : list_any (λ p. is_adjusted adjustment p q) named ≡ true → adjusts_path line adjustment q ≡ true
    to_adjusts h = by (path_cases found.0 q)
      where
        found : (p : Path) × (names line p ≡ true) × (is_adjusted adjustment p q ≡ true)
        found = kept_any (λ p. is_adjusted adjustment p q) (names line) (fin.keys t) h

        by : (found.0 ≡ q) ⊎ (same_path found.0 q ≡ false) → adjusts_path line adjustment q ≡ true
        by (inl same) = ap (λ b. b || (adjustment.deep && names_above line q && not (has_staging q))) (sym (ap (names line) same) ∙ found.1)
        by (inr d) = adjusts_below deeper.0 (named_above line found.0 q found.1 deeper.1 d)
          where
            deeper : (adjustment.deep ≡ true) × (is_prefix found.0 q ≡ true)
            deeper = and_parts adjustment.deep (is_prefix found.0 q) (
                and_parts (adjustment.deep && is_prefix found.0 q) (not (has_staging q)) (sym (ap (λ b. b || (adjustment.deep && is_prefix found.0 q && not (has_staging q))) d) ∙ found.2)).0

  module _ (q : Path) (plain : has_staging q ≡ false) (there : is_some (object_states_of (places t) q) ≡ true) where
    module _ (deep : adjustment.deep ≡ true) where
      reaches_below : (p : Path) → is_prefix p q ≡ true → is_adjusted adjustment p q ≡ true
      reaches_below p above =
          ap (λ d. same_path p q || (d && is_prefix p q && not (has_staging q))) deep
          ∙ ap (λ b. same_path p q || (b && not (has_staging q))) above
          ∙ ap (λ b. same_path p q || not b) plain
          ∙ elim (same_path p q) as (λ b. (b || true) ≡ true) [ true ↦ refl | false ↦ refl ]

      from_adjusts : adjusts_path line adjustment q ≡ true → list_any (λ p. is_adjusted adjustment p q) named ≡ true
      from_adjusts h = by (or_cases (names line q) (adjustment.deep && names_above line q && not (has_staging q)) h)
        where
          by : (names line q ≡ true) ⊎ ((adjustment.deep && names_above line q && not (has_staging q)) ≡ true) → list_any (λ p. is_adjusted adjustment p q) named ≡ true
          by (inl own) = any_kept (λ p. is_adjusted adjustment p q) (names line) q (fin.keys t) (listed q there) own (ap (λ b. b || (adjustment.deep && is_prefix q q && not (has_staging q))) (same_path-refl q))
          by (inr below) = any_kept (λ p. is_adjusted adjustment p q) (names line) (take found.0 q) (fin.keys t) (listed (take found.0 q) present) found.3 (reaches_below (take found.0 q) (is_prefix-take found.0 q))
            where
              found : (k : ℕ) × (0 ≤ k) × (k < 0 + length q) × (names line (take k q) ≡ true)
              found = in_range (λ k. names line (take k q)) 0 (length q) (and_parts adjustment.deep (names_above line q) (and_parts (adjustment.deep && names_above line q) (not (has_staging q)) below).0).1

              present : is_some (object_states_of (places t) (take found.0 q)) ≡ true
              present = dir_there (object_states_of (places t) (take found.0 q)) (
                  shape.above (take found.0 q) q plain (is_prefix-take found.0 q) (λ same. (let l = ap length same in let short = found.2 in omega (arith, l, short, length-take found.0 q))) there)

      any_adjusts : list_any (λ p. is_adjusted adjustment p q) named ≡ adjusts_path line adjustment q
      any_adjusts = same_tests (list_any (λ p. is_adjusted adjustment p q) named) (adjusts_path line adjustment q) (to_adjusts q plain) from_adjusts

    shallow_adjusts : adjustment.deep ≡ false → adjusts_path line adjustment q ≡ names line q
    shallow_adjusts shallow = ap (λ d. names line q || (d && names_above line q && not (has_staging q))) shallow ∙ elim (names line q) as (λ b. (b || false) ≡ b) [ true ↦ refl | false ↦ refl ]

    set_there : set_by_each now adjustment adjusts q named (object_states_of (places t) q) ≡ set_if now adjustment adjusts (adjusts_path line adjustment q) (object_states_of (places t) q)
    set_there = by adjustment.deep refl
      where
        at : (b : Bool) → names line q ≡ b → adjustment.deep ≡ false → set_by_each now adjustment adjusts q named (object_states_of (places t) q) ≡ set_if now adjustment adjusts b (object_states_of (places t) q)
        at true h shallow = set_once now adjustment adjusts shallow q named (object_states_of (places t) q) (
            once_named q ∙ ap (λ b. cond b (cond (is_some (places t q)) 1 0) 0) h ∙ ap (λ b. cond b 1 0) (sym (object_state_some (places t q)) ∙ there))
        at false h shallow = set_never now adjustment adjusts shallow q named (object_states_of (places t) q) (once_named q ∙ ap (λ b. cond b (cond (is_some (places t q)) 1 0) 0) h)

        by : (d : Bool) → adjustment.deep ≡ d → set_by_each now adjustment adjusts q named (object_states_of (places t) q) ≡ set_if now adjustment adjusts (adjusts_path line adjustment q) (object_states_of (places t) q)
        by true deep =
            set_by_any now adjustment adjusts (λ b. run-twice adjustment.sets (deep_repeatable line adjustment e deep) b) q named (object_states_of (places t) q)
            ∙ ap (λ b. set_if now adjustment adjusts b (object_states_of (places t) q)) (any_adjusts deep)
        by false shallow = at (names line q) refl shallow ∙ ap (λ b. set_if now adjustment adjusts b (object_states_of (places t) q)) (sym (shallow_adjusts shallow))

  -- what is left at each path is what the sets make of what stood there, where the line touches it
  pub set_point : one_is_refused (by_turn now line) named t ≡ false → (q : Path) → has_staging q ≡ false
      → object_states_of (places (after_each (by_turn now line) named t)) q ≡ run (cond (adjusts_path line adjustment q) adjustment.sets []) (object_states_of (places t) q)
  set_point quiet q plain = touched_all now adjustment adjusts line e named t quiet q ∙ by (object_states_of (places t) q) refl
    where
      none : (b : Bool) → None ≡ run (cond b adjustment.sets []) None
      none true = sym (adjusted_none adjustment.sets adjusts)
      none false = refl

      same : (b : Bool) (c : Option ObjectState) → set_if now adjustment adjusts b c ≡ run (cond b adjustment.sets []) c
      same b c = grind arith

      by : (b : Option ObjectState) → object_states_of (places t) q ≡ b → set_by_each now adjustment adjusts q named (object_states_of (places t) q) ≡ run (cond (adjusts_path line adjustment q) adjustment.sets []) (object_states_of (places t) q)
      by None f = ap (set_by_each now adjustment adjusts q named) f ∙ set_none now adjustment adjusts q named ∙ none (adjusts_path line adjustment q) ∙ sym (ap (run (cond (adjusts_path line adjustment q) adjustment.sets [])) f)
      by (Some x) f = set_there q plain (ap is_some f) ∙ same (adjusts_path line adjustment q) (object_states_of (places t) q)
