-- Laws of what is removed at the staging names along a path, one after the other: each is as it was in the beginning
-- when its turn comes.
use Rattle.std.specs.Prelude.{◌≡◌, ℕ, ◌+◌, ◌<◌, Bool, true, false, ◌&&◌, List, [], ◌∷◌, ◌++◌, map, length, take, drop, Option, None, cond, is_some, option_map}
use Rattle.std.proofs.Common.{refl, sym, ap, subst, ◌∙◌, inl, inr, append_assoc, arith, zero, suc}
use Rattle.std.proofs.lemmas.Bool.{cases_Bool, and_parts}
use Rattle.std.proofs.lemmas.List.{take-append-drop, take_more}
use Rattle.std.specs.List.{AllByRecursion}
use Rattle.pv_path.specs.Names.{same_bytes, staging_name}
use Rattle.pv_path.specs.Paths.{Path, is_prefix, same_path, parent_of, staging_of}
use Rattle.pv_path.proofs.PathLaws.{prefix_parts, same_bytes-refl, same_bytes-decides}
use Rattle.pv_steps.specs.declared.step.Step.{Step}
use Rattle.pv_steps.specs.declared.object.Object.{Object}
use Rattle.pv_steps.specs.Objects.{modified}
use Rattle.pv_steps.specs.Trees.{Files, Places, places}
use Rattle.pv_steps.specs.Steps.{touched}
use Rattle.pv_walk.specs.Edits.{cut, taken, all_taken}
use Rattle.pv_walk.specs.Listing.{stands_at}
use Rattle.pv_walk.specs.PostOrder.{DidInPostOrder, DoesInPostOrder, TakesInTurn}
use Rattle.pv_walk.specs.Removal.{is_one_of, removal_at}
use Rattle.pv_walk.specs.Staging.{staging_names}
use Rattle.pv_walk.proofs.PathSetLaws.{members_all}
use Rattle.pv_walk.proofs.PostOrderLaws.{removal_stays}
use Rattle.pv_walk.proofs.RemovalLaws.{modified_kept, kept-kind, kept-present, IsKept}
use Rattle.pv_walk.proofs.SweepLaws.{all_taken-more, length-staging_names, staging_name-at}

-- ---- paths taken in turn

-- all of some paths were taken
abbrev pub TookInTurn : Files → List Path → List Step → List Step → Type 0
TookInTurn t [] before behind = behind ≡ before
TookInTurn t (path ∷ paths) before behind = (cleared : List Step) × DidInPostOrder (stands_at t path) (removal_at t) before cleared × TookInTurn t paths cleared behind

module _ (t : Files) where
  pub took_more : (paths : List Path) (path : Path) (a b c : List Step) → TookInTurn t paths a b → DidInPostOrder (stands_at t path) (removal_at t) b c → TookInTurn t (paths ++ path ∷ []) a c
  took_more [] path a b c e d = (c, subst (λ ss. DidInPostOrder (stands_at t path) (removal_at t) ss c) e d, refl)
  took_more (p ∷ paths) path a b c h d = (h.0, h.1, took_more paths path h.0 b c h.2 d)

  pub takes_more : (paths rest : List Path) (path : Path) (a b c : List Step) → TookInTurn t paths a b → DoesInPostOrder (stands_at t path) (removal_at t) b c → TakesInTurn t (paths ++ path ∷ rest) a c
  takes_more [] rest path a b c e d = inl (subst (λ ss. DoesInPostOrder (stands_at t path) (removal_at t) ss c) e d)
  takes_more (p ∷ paths) rest path a b c h d = inr (h.0, h.1, takes_more paths rest path h.0 b c h.2 d)

  pub takes_stop : (paths rest : List Path) (a b : List Step) → TookInTurn t paths a b → TakesInTurn t (paths ++ rest) a b
  takes_stop [] [] a b e = e
  takes_stop [] (path ∷ rest) a b e = inl (DoesInPostOrder.nothing e)
  takes_stop (p ∷ paths) rest a b h = inr (h.0, h.1, takes_stop paths rest h.0 b h.2)

-- ---- the staging names along a path lie apart

longer_name : (n : List ℕ) → same_bytes (staging_name n) n ≡ false
longer_name n = elim (cases_Bool (same_bytes (staging_name n) n)) [
  | inl e ↦ absurd (let long = ap length ((same_bytes-decides (staging_name n) n).0 e) in omega arith)
  | inr e ↦ e
]

-- what is at or below a later one is not at or below an earlier one
staged_apart : (path : Path) (j i : ℕ) → j < i → i < length path → (r : Path) → is_prefix (staging_of (take (suc j) path)) (staging_of (take (suc i) path) ++ r) ≡ false
staged_apart [] j i less short r = absurd (omega arith)
staged_apart (n ∷ []) j i less short r = absurd (omega arith)
staged_apart (n ∷ m ∷ path) j zero less short r = absurd (omega arith)
staged_apart (n ∷ m ∷ path) zero (suc i) less short r = ap (λ b. b && true) (longer_name n)
staged_apart (n ∷ m ∷ path) (suc j) (suc i) less short r =
    ap (λ b. b && is_prefix (staging_of (take (suc j) (m ∷ path))) (staging_of (take (suc i) (m ∷ path)) ++ r)) (same_bytes-refl n) ∙ staged_apart (m ∷ path) j i (omega arith) (omega arith) r

-- ---- what is elsewhere is kept

taken_kept : (now : ℕ) (x : Path) (t : Places) (q : Path) → is_prefix x q ≡ false → IsKept now (t q) (taken now x t q)
taken_kept now x t q apart = by (is_some (t x))
  where
    same : cut x t q ≡ t q
    same = ap (λ b. cond b None (t q)) apart

    touch : (b : Bool) → IsKept now (t q) (cond b (option_map (modified now) (cut x t q)) (cut x t q))
    touch true = inr (ap (option_map (modified now)) same)
    touch false = inl same

    by : (b : Bool) → IsKept now (t q) (cond b (touched now x (cut x t)) t q)
    by true = touch (same_path (parent_of x) q)
    by false = inl refl

kept_kept : (now : ℕ) (o p q : Option Object) → IsKept now o p → IsKept now p q → IsKept now o q
kept_kept now o p q h (inl e) = subst (IsKept now o) (sym e) h
kept_kept now o p q h (inr e) = inr (e ∙ modified_kept now o p h)

map_same : (f g : Path → Step) (paths : List Path) → AllByRecursion (λ p. f p ≡ g p) paths → map f paths ≡ map g paths
map_same f g [] h = refl
map_same f g (p ∷ paths) h = ap (λ s. s ∷ map f paths) h.0 ∙ ap (λ ss. g p ∷ ss) (map_same f g paths h.1)

module _ (path : Path) (now : ℕ) (t : Files) (i : ℕ) (short : i < length path) where
  -- the name whose turn comes
  abbrev turn : Path
  turn = staging_of (take (i + 1) path)

  apart_of : (k : ℕ) → k < i → (q : Path) → is_prefix turn q ≡ true → is_prefix (staging_of (take (k + 1) path)) q ≡ false
  apart_of k less q under =
      let parts = prefix_parts turn q under in
      let one : suc k ≡ k + 1 = omega arith in
      let other : suc i ≡ i + 1 = omega arith in
      ap (is_prefix (staging_of (take (k + 1) path))) parts.1
      ∙ subst (λ m. is_prefix (staging_of (take m path)) (turn ++ parts.0) ≡ false) one
      (subst (λ m. is_prefix (staging_of (take (suc k) path)) (staging_of (take m path) ++ parts.0) ≡ false) other (staged_apart path k i less short parts.0))

  -- what is at and below it is kept while those before it are taken
  kept_below : (q : Path) → is_prefix turn q ≡ true → (k : ℕ) → k < i + 1 → IsKept now (places t q) (all_taken now (take k (staging_names path)) (places t) q)
  kept_below q under zero le = inl refl
  kept_below q under (suc k) le =
      let before = all_taken now (take k (staging_names path)) (places t) in
      let one : k + 1 ≡ suc k = omega arith in
      let more : taken now (staging_of (take (k + 1) path)) before q ≡ all_taken now (take (suc k) (staging_names path)) (places t) q =
      sym (ap (λ (x : Places). x q) (all_taken-more path now k (places t) (omega arith))) ∙ ap (λ m. all_taken now (take m (staging_names path)) (places t) q) one in
      subst (IsKept now (places t q)) more
      (kept_kept now (places t q) (before q) (taken now (staging_of (take (k + 1) path)) before q) (kept_below q under k (omega arith))
      (taken_kept now (staging_of (take (k + 1) path)) before q (apart_of k (omega arith) q under)))

  module _ (u : Files) (is : places u ≡ all_taken now (take i (staging_names path)) (places t)) where
    kept_here : (q : Path) → is_prefix turn q ≡ true → IsKept now (places t q) (places u q)
    kept_here q under = subst (IsKept now (places t q)) (sym (ap (λ (x : Places). x q) is)) (kept_below q under i (omega arith))

    stands_same : (q : Path) → stands_at u turn q ≡ stands_at t turn q
    stands_same q = by (is_prefix turn q) refl
      where
        by : (b : Bool) → is_prefix turn q ≡ b → stands_at u turn q ≡ stands_at t turn q
        by true e = ap (λ b. is_prefix turn q && b) (kept-present now (places t q) (places u q) (kept_here q e))
        by false e = ap (λ b. b && is_some (places u q)) e ∙ sym (ap (λ b. b && is_some (places t q)) e)

    steps_same : (paths : List Path) → ((q : Path) → is_one_of paths q ≡ stands_at u turn q) → map (removal_at u) paths ≡ map (removal_at t) paths
    steps_same paths are = map_same (removal_at u) (removal_at t) paths (members_all (λ q. removal_at u q ≡ removal_at t q) paths each)
      where
        each : (q : Path) → is_one_of paths q ≡ true → removal_at u q ≡ removal_at t q
        each q h = removal_stays t u q (kept-kind now (places t q) (places u q) (kept_here q (and_parts (is_prefix turn q) (is_some (places u q)) (sym (are q) ∙ h)).0))

    -- so its turn does what it would have done in the beginning
    pub did_then : (before behind : List Step) → DidInPostOrder (stands_at u turn) (removal_at u) before behind → DidInPostOrder (stands_at t turn) (removal_at t) before behind
    did_then before behind d = record {
      paths = d.paths;
      are = λ q. d.are q ∙ stands_same q;
      in_order = d.in_order;
      all = d.all ∙ ap (λ ss. before ++ ss) (steps_same d.paths d.are);
    }

    pub does_then : (before behind : List Step) → DoesInPostOrder (stands_at u turn) (removal_at u) before behind → DoesInPostOrder (stands_at t turn) (removal_at t) before behind
    does_then before behind (DoesInPostOrder.nothing e) = DoesInPostOrder.nothing e
    does_then before behind (DoesInPostOrder.first paths are up part) =
        DoesInPostOrder.first paths (λ q. are q ∙ stands_same q) up (part.0, part.1 ∙ ap (λ ss. before ++ take part.0 ss) (steps_same paths are))

-- ---- one name more

module _ (path : Path) (i : ℕ) (short : i < length path) where
  next_name : take (i + 1) (staging_names path) ≡ take i (staging_names path) ++ staging_of (take (i + 1) path) ∷ []
  next_name =
      take_more (staging_names path) i [] (omega (arith, length-staging_names path))
      ∙ ap (λ (p : Path). take i (staging_names path) ++ p ∷ []) (staging_name-at path i [] short)

  names_from : staging_names path ≡ take i (staging_names path) ++ staging_of (take (i + 1) path) ∷ drop (i + 1) (staging_names path)
  names_from =
      sym (take-append-drop (i + 1) (staging_names path)) ∙ ap (λ (ps : List Path). ps ++ drop (i + 1) (staging_names path)) next_name
      ∙ append_assoc (take i (staging_names path)) (staging_of (take (i + 1) path) ∷ []) (drop (i + 1) (staging_names path))

  module _ (t : Files) (a b c : List Step) (before : TookInTurn t (take i (staging_names path)) a b) where
    pub took_next : DidInPostOrder (stands_at t (staging_of (take (i + 1) path))) (removal_at t) b c → TookInTurn t (take (i + 1) (staging_names path)) a c
    took_next d = subst (λ (ps : List Path). TookInTurn t ps a c) (sym next_name) (took_more t (take i (staging_names path)) (staging_of (take (i + 1) path)) a b c before d)

    pub takes_next : DoesInPostOrder (stands_at t (staging_of (take (i + 1) path))) (removal_at t) b c → TakesInTurn t (staging_names path) a c
    takes_next d =
        subst (λ (ps : List Path). TakesInTurn t ps a c) (sym names_from)
        (takes_more t (take i (staging_names path)) (drop (i + 1) (staging_names path)) (staging_of (take (i + 1) path)) a b c before d)

-- no name more
pub takes_here : (path : Path) (i : ℕ) (t : Files) (a b : List Step) → TookInTurn t (take i (staging_names path)) a b → TakesInTurn t (staging_names path) a b
takes_here path i t a b before =
    subst (λ (ps : List Path). TakesInTurn t ps a b) (take-append-drop i (staging_names path)) (takes_stop t (take i (staging_names path)) (drop i (staging_names path)) a b before)
