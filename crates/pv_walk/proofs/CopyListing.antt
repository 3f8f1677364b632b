-- Laws of how a copy is listed: the pieces that are listed and those that tasks stand for, what they cost, and that the
-- list ends.
use Rattle.std.specs.Prelude.{◌≡◌, ℕ, ◌+◌, ◌-◌, ◌*◌, ◌≤◌, ◌<◌, Bool, true, false, cond, List, [], ◌∷◌, ◌++◌, length, map, filter, filter_map, Option, Some, None, is_some, option_map}
use Rattle.std.proofs.Common.{zero, suc, refl, sym, ap, subst, ◌∙◌, inl, inr, ◌⊎◌, arith, append_assoc, length-append}
use Rattle.std.proofs.lemmas.List.{append-nil}
use Rattle.std.specs.List.{cons_option}
use Rattle.std.specs.FinMap as fin
use Rattle.std.proofs.lemmas.Bool.{cases_Bool}
use Rattle.pv_walk.specs.declared.object_state.ObjectState.{ObjectState}
use Rattle.pv_path.specs.Paths.{Path, same_path, rest_under}
use Rattle.pv_path.proofs.PathLaws.{rest_under-append, rest_under-Some, same_path-refl}
use Rattle.pv_steps.specs.Trees.{Files, places}
use Rattle.pv_walk.specs.declared.listing.Piece.{Piece}
use Rattle.pv_walk.specs.declared.listing.Piece.TheVariants.{Make, Give}
use Rattle.pv_walk.specs.declared.listing.Task.{Task}
use Rattle.pv_walk.specs.declared.listing.Task.TheVariants.{Open, Close}
use Rattle.pv_walk.specs.Copying.{copied_count}
use Rattle.pv_walk.specs.Listing.{times}
use Rattle.pv_walk.specs.Pieces.{what_of, built, made_of, IsPlan, IsDoable, AreDoable, cost_of, piece_cost, last_piece, tasks_before, pieces_now, tasks_left}
use Rattle.pv_walk.specs.Staging.{most_staged}
use Rattle.pv_walk.proofs.CountLaws.{times-filter, times-keys, length-times, same_or_not}
use Rattle.pv_walk.proofs.BuildingLaws.{rest_same}
use Rattle.pv_walk.specs.Nodes.{object_state_of}
use Rattle.pv_walk.specs.Making.{held_object}
use Rattle.pv_walk.proofs.ListingLaws.{cond-one, cond-zero}
use Rattle.pv_walk.proofs.RemovalLaws.{no_same}
use Rattle.pv_walk.proofs.PlanLaws.{Subtree, IsSubtree, each_below, around, pieces_below, below_fills}
use Rattle.pv_path.proofs.Tests.{true_not_false}

-- ---- costs

pub cost-append : (xs ys : List Piece) → cost_of (xs ++ ys) ≡ cost_of xs + cost_of ys
cost-append [] ys = omega arith
cost-append (x ∷ xs) ys = let rest = cost-append xs ys in omega (arith, rest)

pub cost-push : (xs : List Piece) (x : Piece) {ys : List Piece} → ys ≡ xs ++ x ∷ [] → cost_of ys ≡ cost_of xs + piece_cost x
cost-push xs x is = let all = ap cost_of is in let parts = cost-append xs (x ∷ []) in omega (arith, all, parts)

-- the places at which objects are made
abbrev pub made_places : List Piece → List Path
made_places [] = []
made_places (Make rest what ∷ pieces) = rest ∷ made_places pieces
made_places (Give rest metadata ∷ pieces) = made_places pieces

pub made_places-append : (xs ys : List Piece) → made_places (xs ++ ys) ≡ made_places xs ++ made_places ys
made_places-append [] ys = refl
made_places-append (Make rest what ∷ xs) ys = ap (λ ps. rest ∷ ps) (made_places-append xs ys)
made_places-append (Give rest metadata ∷ xs) ys = made_places-append xs ys

-- seven steps at most for each object that is made
abbrev pub IsPriced : List Piece → Type 0
IsPriced pieces = cost_of pieces ≡ 7 * length (made_places pieces)

priced-append : (xs ys : List Piece) → IsPriced xs → IsPriced ys → IsPriced (xs ++ ys)
priced-append xs ys h g = omega (arith, h, g, cost-append xs ys, ap length (made_places-append xs ys), length-append (made_places xs) (made_places ys))

priced-each : (f : Path → List Piece) → ((r : Path) → IsPriced (f r)) → (r : Path) (ns : List (List ℕ)) → IsPriced (each_below f r ns)
priced-each f h r [] = refl
priced-each f h r (n ∷ ns) = priced-append (each_below f r ns) (f (r ++ n ∷ [])) (priced-each f h r ns) (h (r ++ n ∷ []))

priced-around : (r : Path) (inner : List Piece) (o : Option ObjectState) → IsPriced inner → IsPriced (around r inner o)
priced-around r inner None h = refl
priced-around r inner (Some b) h =
    omega (arith, h, cost-append inner (Make r (what_of b.body) ∷ []), ap length (made_places-append inner (Make r (what_of b.body) ∷ [])), length-append (made_places inner) (r ∷ []))

pub priced : (subtree : Subtree) (names : Path → List (List ℕ)) (k : ℕ) (r : Path) → IsPriced (pieces_below subtree names k r)
priced subtree names zero r = refl
priced subtree names (suc k) r =
    priced-around r (each_below (pieces_below subtree names k) r (names r)) (subtree r) (priced-each (pieces_below subtree names k) (priced subtree names k) r (names r))

abbrev one_if : Bool → ℕ
one_if b = cond b 1 0

-- no object is made twice
pub made_once : (subtree : Subtree) (pieces : List Piece) → AreDoable subtree (λ q. None) pieces → (q : Path) → times q (made_places pieces) ≤ cond (is_some (made_of pieces q)) 1 0
made_once subtree [] h q = omega arith
made_once subtree (Make rest what ∷ pieces) h q = by (made_once subtree pieces h.0 q) h.1 (same_or_not rest q)
  where
    by : times q (made_places pieces) ≤ cond (is_some (built pieces (λ q. None) q)) 1 0 → IsDoable subtree (built pieces (λ q. None)) (Make rest what)
        → ((rest ≡ q) × (same_path rest q ≡ true)) ⊎ (same_path rest q ≡ false) → cond (same_path rest q) 1 0 + times q (made_places pieces) ≤ cond (is_some (made_of (Make rest what ∷ pieces) q)) 1 0
    by before (b, (there, (whole, (same, (none, place))))) (inl e) =
        let here : built pieces (λ q. None) q ≡ None = ap (built pieces (λ q. None)) (sym e.0) ∙ none in
        let zero : times q (made_places pieces) ≤ 0 = subst (λ (v : Option ObjectState). times q (made_places pieces) ≤ cond (is_some v) 1 0) here before in
        let after = cond-one (is_some (made_of (Make rest what ∷ pieces) q)) (ap (λ c. is_some (cond c (Some (object_state_of (held_object what 0))) (built pieces (λ q. None) q))) e.1) in
        let one = cond-one (same_path rest q) e.1 in
        omega (arith, zero, after, one)
    by before doable (inr d) =
        let after = ap (λ c. one_if (is_some (cond c (Some (object_state_of (held_object what 0))) (built pieces (λ q. None) q)))) d in
        let none = cond-zero (same_path rest q) d in
        omega (arith, before, after, none)
made_once subtree (Give rest metadata ∷ pieces) h q =
    let before = made_once subtree pieces h.0 q in
    let after = ap one_if (still (same_path rest q) (built pieces (λ q. None) q)) in
    omega (arith, before, after)
  where
    still : (c : Bool) (x : Option ObjectState) → is_some (cond c (option_map (λ (b : ObjectState). record b { metadata = metadata }) x) x) ≡ is_some x
    still true None = refl
    still true (Some x) = refl
    still false x = refl

-- ---- how many objects a copy has

-- what follows a path in the paths of a list
pub rests_of : (source q : Path) (ks : List Path) → times q (filter_map (rest_under source) ks) ≡ times (source ++ q) ks
rests_of source q [] = refl
rests_of source q (k ∷ ks) = by (rests_of source q ks) (rest_under source k) refl
  where
    by : times q (filter_map (rest_under source) ks) ≡ times (source ++ q) ks → (o : Option Path) → rest_under source k ≡ o
        → times q (cons_option o (filter_map (rest_under source) ks)) ≡ cond (same_path k (source ++ q)) 1 0 + times (source ++ q) ks
    by rest None e =
        let other : same_path k (source ++ q) ≡ false = no_same k (source ++ q) (λ s. (let no : None ≡ Some q = sym e ∙ ap (rest_under source) s ∙ rest_under-append source q in cc)) in
        omega (arith, rest, cond-zero (same_path k (source ++ q)) other)
    by rest (Some r) e = omega (arith, rest, one (same_or_not r q))
      where
        is : k ≡ source ++ r
        is = rest_under-Some source k r e

        one : ((r ≡ q) × (same_path r q ≡ true)) ⊎ (same_path r q ≡ false) → one_if (same_path r q) ≡ one_if (same_path k (source ++ q))
        one (inl s) = ap one_if (s.1 ∙ sym (ap (λ p. same_path p (source ++ q)) (is ∙ ap (λ p. source ++ p) s.0) ∙ same_path-refl (source ++ q)))
        one (inr d) = ap one_if (d ∙ sym (no_same k (source ++ q) (λ s. absurd (true_not_false (same_path r q) (ap (λ p. same_path p q) (rest_same source r q (sym is ∙ s)) ∙ same_path-refl q) d))))

-- how many names the paths of a list have
abbrev pub all_names : List Path → ℕ
all_names [] = 0
all_names (p ∷ ps) = length p + all_names ps

-- more names than any path of a tree has
abbrev pub depth_of : Files → ℕ
depth_of t = suc (all_names (fin.keys t))

module _ (subtree : Subtree) (source : Path) (t : Files) (stands : (q : Path) → is_some (subtree q) ≡ true → is_some (places t (source ++ q)) ≡ true) where
  -- pieces that make the subtree cost no more than seven steps for each object of it
  pub cost_bound : (pieces : List Piece) → IsPlan pieces → made_of pieces ≡ subtree → IsPriced pieces → cost_of pieces ≤ most_staged * copied_count subtree source t
  cost_bound pieces plan whole price =
      let few = length-times (made_places pieces) (filter (λ rest. is_some (subtree rest)) (filter_map (rest_under source) (fin.keys t))) (λ q. once q (cases_Bool (is_some (subtree q)))) in
      omega (arith, price, few)
    where
      once : (q : Path) → (is_some (subtree q) ≡ true) ⊎ (is_some (subtree q) ≡ false) → times q (made_places pieces) ≤ times q (filter (λ rest. is_some (subtree rest)) (filter_map (rest_under source) (fin.keys t)))
      once q (inl e) =
          let made : times q (made_places pieces) ≤ cond (is_some (subtree q)) 1 0 = subst (λ (v : Subtree). times q (made_places pieces) ≤ cond (is_some (v q)) 1 0) whole (made_once (made_of pieces) pieces plan q) in
          let kept = times-filter (λ rest. is_some (subtree rest)) q (filter_map (rest_under source) (fin.keys t)) in
          let there : times q (filter_map (rest_under source) (fin.keys t)) ≡ 1 = rests_of source q (fin.keys t) ∙ times-keys t (source ++ q) ∙ cond-one (is_some (places t (source ++ q))) (stands q e) in
          let all : times q (filter (λ rest. is_some (subtree rest)) (filter_map (rest_under source) (fin.keys t))) ≡ times q (filter_map (rest_under source) (fin.keys t)) = kept ∙ ap (λ c. cond c (times q (filter_map (rest_under source) (fin.keys t))) 0) e in
          omega (arith, made, all, there, cond-one (is_some (subtree q)) e)
      once q (inr d) =
          let made : times q (made_places pieces) ≤ cond (is_some (subtree q)) 1 0 = subst (λ (v : Subtree). times q (made_places pieces) ≤ cond (is_some (v q)) 1 0) whole (made_once (made_of pieces) pieces plan q) in
          omega (arith, made, cond-zero (is_some (subtree q)) d)

  -- ---- no object lies deeper than a tree is

  in_sum : (p : Path) (ks : List Path) → 1 ≤ times p ks → length p ≤ all_names ks
  in_sum p [] h = absurd (omega arith)
  in_sum p (k ∷ ks) h = elim (same_or_not k p) [
    | inl s ↦ omega (arith, ap length s.0)
    | inr d ↦ (let none = cond-zero (same_path k p) d in let rest : 1 ≤ times p ks = omega (arith, h, none) in omega (arith, in_sum p ks rest))
  ]

  pub within_depth : (q : Path) → is_some (subtree q) ≡ true → length q < depth_of t
  within_depth q e =
      let one : times (source ++ q) (fin.keys t) ≡ 1 = times-keys t (source ++ q) ∙ cond-one (is_some (places t (source ++ q))) (stands q e) in
      let long = in_sum (source ++ q) (fin.keys t) (omega (arith, one)) in
      omega (arith, long, length-append source q)

-- ---- tasks

-- what an object counts, and what is below it
abbrev pub heft_of : ℕ → Option ObjectState → ℕ
heft_of below None = 1
heft_of below (Some b) = 2 + below

-- what several children count
abbrev pub total : (Path → ℕ) → Path → List (List ℕ) → ℕ
total f r [] = 0
total f r (n ∷ ns) = total f r ns + f (r ++ n ∷ [])

module _ (subtree : Subtree) (names : Path → List (List ℕ)) where
  -- how many tasks a place is worth, as far down as a number of names
  abbrev pub heft : ℕ → Path → ℕ
  heft zero r = 1
  heft (suc k) r = heft_of (total (heft k) r (names r)) (subtree r)

  module _ (deep : ℕ) where
    -- the pieces that a task stands for, and those of several, the last task first
    abbrev pub back : Task → List Piece
    back (Close piece) = piece ∷ []
    back (Open r) = pieces_below subtree names (deep - length r) r

    abbrev pub backs : List Task → List Piece
    backs [] = []
    backs (task ∷ work) = backs work ++ back task

    abbrev pub task_heft : Task → ℕ
    task_heft (Close piece) = 1
    task_heft (Open r) = heft (deep - length r) r

    abbrev pub hefts : List Task → ℕ
    hefts [] = 0
    hefts (task ∷ work) = hefts work + task_heft task

    -- what is listed, with what the tasks stand for, is all
    abbrev pub IsListed : List Piece → List Task → Type 0
    IsListed listed work = listed ++ backs work ≡ pieces_below subtree names deep []

    pub backs-append : (xs ys : List Task) → backs (xs ++ ys) ≡ backs ys ++ backs xs
    backs-append [] ys = sym (append-nil (backs ys))
    backs-append (x ∷ xs) ys = ap (λ ps. ps ++ back x) (backs-append xs ys) ∙ append_assoc (backs ys) (backs xs) (back x)

    pub hefts-append : (xs ys : List Task) → hefts (xs ++ ys) ≡ hefts ys + hefts xs
    hefts-append [] ys = omega arith
    hefts-append (x ∷ xs) ys = omega (arith, hefts-append xs ys)

    absent_back : (k : ℕ) (r : Path) → subtree r ≡ None → pieces_below subtree names k r ≡ []
    absent_back zero r e = refl
    absent_back (suc k) r e = ap (around r (each_below (pieces_below subtree names k) r (names r))) e

    absent_heft : (k : ℕ) (r : Path) → subtree r ≡ None → heft k r ≡ 1
    absent_heft zero r e = refl
    absent_heft (suc k) r e = ap (heft_of (total (heft k) r (names r))) e

    child_depth : (k : ℕ) (r : Path) (n : List ℕ) → deep - length r ≡ suc k → deep - length (r ++ n ∷ []) ≡ k
    child_depth k r n e = omega (arith, e, length-append r (n ∷ []))

    opened_backs : (k : ℕ) (r : Path) → deep - length r ≡ suc k → (ns : List (List ℕ)) → backs (map (λ n. Open (r ++ n ∷ [])) ns) ≡ each_below (pieces_below subtree names k) r ns
    opened_backs k r e [] = refl
    opened_backs k r e (n ∷ ns) =
        ap (λ ps. ps ++ pieces_below subtree names (deep - length (r ++ n ∷ [])) (r ++ n ∷ [])) (opened_backs k r e ns)
        ∙ ap (λ d. each_below (pieces_below subtree names k) r ns ++ pieces_below subtree names d (r ++ n ∷ [])) (child_depth k r n e)

    opened_hefts : (k : ℕ) (r : Path) → deep - length r ≡ suc k → (ns : List (List ℕ)) → hefts (map (λ n. Open (r ++ n ∷ [])) ns) ≡ total (heft k) r ns
    opened_hefts k r e [] = refl
    opened_hefts k r e (n ∷ ns) = let here : heft (deep - length (r ++ n ∷ [])) (r ++ n ∷ []) ≡ heft k (r ++ n ∷ []) = ap (λ d. heft d (r ++ n ∷ [])) (child_depth k r n e) in omega (arith, opened_hefts k r e ns, here)

    module _ (within : (q : Path) → is_some (subtree q) ≡ true → length q < deep) where
      some_depth : (r : Path) → is_some (subtree r) ≡ true → deep - length r ≡ suc (deep - length r - 1)
      some_depth r some = let short = within r some in omega (arith, short)

      next_back : (task : Task) → back task ≡ pieces_now subtree task ++ backs (tasks_left subtree names task)
      next_back (Close piece) = refl
      next_back (Open r) = by (subtree r) refl
        where
          by : (o : Option ObjectState) → subtree r ≡ o → pieces_below subtree names (deep - length r) r ≡ last_piece r o ++ backs (tasks_before r (names r) o)
          by None e = absent_back (deep - length r) r e
          by (Some b) e =
              let depth = some_depth r (ap is_some e) in
              ap (λ d. pieces_below subtree names d r) depth
              ∙ ap (around r (each_below (pieces_below subtree names (deep - length r - 1)) r (names r))) e
              ∙ ap (λ ps. Give r b.metadata ∷ (ps ++ Make r (what_of b.body) ∷ [])) (sym (opened_backs (deep - length r - 1) r depth (names r)))

      pub next_heft : (task : Task) → task_heft task ≡ 1 + hefts (tasks_left subtree names task)
      next_heft (Close piece) = refl
      next_heft (Open r) = by (subtree r) refl
        where
          by : (o : Option ObjectState) → subtree r ≡ o → heft (deep - length r) r ≡ 1 + hefts (tasks_before r (names r) o)
          by None e = absent_heft (deep - length r) r e
          by (Some b) e =
              let depth = some_depth r (ap is_some e) in
              let one : heft (deep - length r) r ≡ heft (suc (deep - length r - 1)) r = ap (λ d. heft d r) depth in
              let two : heft (suc (deep - length r - 1)) r ≡ 2 + total (heft (deep - length r - 1)) r (names r) = ap (heft_of (total (heft (deep - length r - 1)) r (names r))) e in
              omega (arith, one, two, opened_hefts (deep - length r - 1) r depth (names r))

      pub listed_start : IsListed [] (Open [] ∷ [])
      listed_start = ap (λ d. pieces_below subtree names d []) (omega arith)

      pub listed_started : {listed : List Piece} {work : List Task} → listed ≡ [] → work ≡ Open [] ∷ [] → IsListed listed work
      listed_started {listed} {work} none one = ap (λ (ps : List Piece). ps ++ backs work) none ∙ ap backs one ∙ listed_start

      pub listed_next : (listed : List Piece) (work : List Task) (task : Task) → IsListed listed (work ++ task ∷ []) → IsListed (listed ++ pieces_now subtree task) (work ++ tasks_left subtree names task)
      listed_next listed work task h =
          append_assoc listed (pieces_now subtree task) (backs (work ++ tasks_left subtree names task))
          ∙ ap (λ ps. listed ++ ps)
          (ap (λ ps. pieces_now subtree task ++ ps) (backs-append work (tasks_left subtree names task))
          ∙ sym (append_assoc (pieces_now subtree task) (backs (tasks_left subtree names task)) (backs work))
          ∙ ap (λ ps. ps ++ backs work) (sym (next_back task))
          ∙ sym (backs-append work (task ∷ [])))
          ∙ h

      pub hefts_fall : (work : List Task) (task : Task) → hefts (work ++ tasks_left subtree names task) < hefts (work ++ task ∷ [])
      hefts_fall work task = omega (arith, hefts-append work (tasks_left subtree names task), hefts-append work (task ∷ []), next_heft task)

      -- when no task is left, the list makes the subtree
      pub listed_end : IsSubtree subtree names → (listed : List Piece) → IsListed listed [] → IsPlan listed × ((made_of listed ≡ subtree) × IsPriced listed)
      listed_end is listed h =
          let same : listed ≡ pieces_below subtree names deep [] = sym (append-nil listed) ∙ h in
          let fills = below_fills subtree names is deep [] (λ q. None) within (λ x. refl) (λ some. inl refl) in
          let whole : made_of listed ≡ subtree = ap made_of same ∙ fills.fills in
          let doable : AreDoable subtree (λ q. None) listed = subst (AreDoable subtree (λ q. None)) (sym same) fills.doable in
          (subst (λ (v : Subtree). AreDoable v (λ q. None) listed) (sym whole) doable, (whole, subst IsPriced (sym same) (priced subtree names deep [])))
