-- What a line that makes an object, and is not refused, leaves at each path by itself, timestamps and staging names aside.
use Rattle.std.specs.Prelude.{◌≡◌, ◌≢◌, ◌⊎◌, ℕ, Bool, true, false, not, cond, ◌&&◌, ◌||◌, ◌==◌, List, [], ◌∷◌, ◌++◌, Option, Some, None, is_some, option_map, if◌then◌else◌}
use Rattle.std.proofs.Common.{refl, sym, ap, subst, ◌∙◌, arith, inl, inr}
use Rattle.std.proofs.lemmas.Bool.Decides.{nat_tests}
use Rattle.std.proofs.lemmas.List.{append-nil}
use Rattle.std.specs.FinMap as fin
use Rattle.std.specs.List.{list_all}
use Rattle.std.specs.Option.{option_map_or}
use Rattle.std.specs.Str.{bytes_eq}
use Rattle.std.proofs.lemmas.Bool.{and_from, false_from_ne_true}
use Rattle.pv_path.specs.Paths.{has_names, Path, same_path, is_prefix, rest_under, parent_of, has_staging, same_path-decides}
use Rattle.pv_path.proofs.PathLaws.{same_path-refl, is_prefix-antisym, rest_under-self, rest_under-None, rest_under-Some, prefix_rest, same_path-no}
use Rattle.pv_steps.specs.declared.node.Kind.{Kind}
use Rattle.pv_steps.specs.declared.node.Kind.TheVariants.{Directory}
use Rattle.pv_steps.specs.declared.object.Object.{Object}
use Rattle.pv_steps.specs.Objects.{is_directory, modified}
use Rattle.pv_steps.specs.Trees.{Files, Places, places}
use Rattle.pv_steps.proofs.StepLaws.{is_among}
use Rattle.pv_walk.specs.declared.object_state.ObjectState.{ObjectState}
use Rattle.pv_walk.specs.declared.operation.Operation.{Operation}
use Rattle.pv_walk.specs.declared.operation.Operation.TheVariants.{Make, Renew, Erase}
use Rattle.pv_walk.specs.declared.operation.Test.{Test}
use Rattle.pv_walk.specs.Nodes.{object_state_of, object_states_of, is_link, same_kind, same_substance}
use Rattle.pv_walk.specs.Operations.{stays, done, run}
use Rattle.pv_walk.proofs.EditLaws.{path_cases, on_at-here, on_at-else}
use Rattle.pv_walk.specs.Copying.{Subtree, object_of, with_subtree, single}
use Rattle.pv_walk.specs.declared.new_file.NewKind.{NewKind}
use Rattle.pv_walk.specs.Staging.{new_object, new_kind, new_major, new_minor}
use Rattle.pv_table.specs.declared.action.Action.{Action}
use Rattle.pv_table.specs.declared.action.Action.TheVariants.{Create}
use Rattle.pv_table.specs.declared.action.Making.{Making}
use Rattle.pv_table.specs.Asked.{first_of, clears_below, made_at}
use Rattle.pv_table.specs.Effects.{put_paths, turned, prepare, carried_out, become}
use Rattle.pv_table.specs.Pointwise.{parent_object_state, after_turn}
use Rattle.pv_table.specs.Turns.{Turn, making_turn}
use Rattle.pv_laws.proofs.Comparing.{become-object_state}
use Rattle.pv_table.proofs.EffectLaws.{place-become, place-prepare, place-put, single_keyed}
use Rattle.pv_laws.proofs.Prepared.{filled, prepared-here, prepared-else}
use Rattle.pv_laws.proofs.Sets.{impossible, is_adjustment, IsMaking, adjusted_none, only_adjusts, left_alone}
use Rattle.pv_path.proofs.Tests.{none_of, true_not_false}

-- ---- what the laws need of a tree, timestamps aside

-- whether a directory stands there
abbrev pub is_dir : Option ObjectState → Bool
is_dir b = option_map_or (λ x. is_directory x.body.kind) b false

-- the root is a directory, the object at a path without a staging name lies in directories, its path has names, and
-- directories have no numbers
pub record IsShaped (b : Path → Option ObjectState) : Type 0 where
  pub root : is_dir (b []) ≡ true
  pub above : (p q : Path) → has_staging q ≡ false → is_prefix p q ≡ true → p ≢ q → is_some (b q) ≡ true → is_dir (b p) ≡ true
  pub plain : (q : Path) (x : ObjectState) → has_staging q ≡ false → b q ≡ Some x → is_directory x.body.kind ≡ true → (x.body.major ≡ 0) × (x.body.minor ≡ 0)
  pub named : (q : Path) → has_staging q ≡ false → is_some (b q) ≡ true → has_names q ≡ true

-- so nothing stands at a path that has no names
pub nothing_unnamed : (b : Path → Option ObjectState) → IsShaped b → (q : Path) → has_staging q ≡ false → has_names q ≡ false → b q ≡ None
nothing_unnamed b shape q plain none = none_of (b q) (false_from_ne_true _ (λ there. true_not_false (has_names q) (shape.named q plain there) none))

-- nor below what is not a directory
pub nothing_under : (b : Path → Option ObjectState) → IsShaped b → (p q : Path) → has_staging q ≡ false → is_prefix p q ≡ true → p ≢ q → is_dir (b p) ≡ false → b q ≡ None
nothing_under b shape p q plain under other no_dir = none_of (b q) (false_from_ne_true _ (λ there. true_not_false (is_dir (b p)) (shape.above p q plain under other there) no_dir))

-- and two that have the shape agree there
pub same_unnamed : (a b : Path → Option ObjectState) → IsShaped a → IsShaped b → (q : Path) → has_staging q ≡ false → (has_names q ≡ true → a q ≡ b q) → a q ≡ b q
same_unnamed a b shape_a shape_b q plain same = by (has_names q) refl
  where
    by : (t : Bool) → has_names q ≡ t → a q ≡ b q
    by true e = same e
    by false e = nothing_unnamed a shape_a q plain e ∙ sym (nothing_unnamed b shape_b q plain e)

pub dir_there : (b : Option ObjectState) → is_dir b ≡ true → is_some b ≡ true
dir_there b h = grind arith

-- ---- a new object put in the place of all that stood at and below a path

stamped : (now : ℕ) (b : Bool) (o : Option Object) → option_map object_state_of (cond b (option_map (modified now) o) o) ≡ option_map object_state_of o
stamped now b o = grind arith

pub new_object_states : (now : ℕ) (o : Option ObjectState) → option_map object_state_of (option_map (object_of now) o) ≡ o
new_object_states now o = grind arith

module _ (now : ℕ) (path : Path) (subtree : Subtree) (t : Places) (q : Path) where
  pub put-outside : rest_under path q ≡ None → object_states_of (with_subtree now path subtree t) q ≡ object_states_of t q
  put-outside e = rw e (stamped now (same_path (parent_of path) q) (t q))

  pub put-inside : (rest : Path) → rest_under path q ≡ Some rest → object_states_of (with_subtree now path subtree t) q ≡ subtree rest
  put-inside rest e = rw e (stamped now (same_path (parent_of path) q) (option_map (object_of now) (subtree rest)) ∙ new_object_states now (subtree rest))

-- ---- what is done at the path

module _ (now : ℕ) (action : Action) (path : Path) (u : Files) where
  abbrev after_it : Turn → Path → Option ObjectState
  after_it turn q = object_states_of (places (turned now action path turn u)) q

  -- what is done at a path reaches it and what lies below it alone
  pub record IsDone (turn : Turn) : Type 0 where
    pub outside : (q : Path) → rest_under path q ≡ None → after_it turn q ≡ object_states_of (places u) q
    pub inside : (q rest : Path) → rest_under path q ≡ Some rest → after_it turn q ≡ after_turn turn rest (object_states_of (places u) q)

  pub left_done : (kind : Kind) → IsDone (Turn.Left kind)
  left_done kind = record { outside = λ q e. refl; inside = λ q rest e. refl }

  -- a subtree is put whole, where the paths at which it may have something are looked at
  module _ (subtree : Subtree) (keyed : (rest : Path) → is_some (subtree rest) ≡ true → is_among (path ++ rest) (put_paths action path u ++ fin.keys u) ≡ true) where
    pub put_done : IsDone (Turn.Put subtree)
    put_done = record {
      outside = λ q e. ap (option_map object_state_of) (place-put now action path u subtree keyed q) ∙ put-outside now path subtree (places u) q e;
      inside = λ q rest e. ap (option_map object_state_of) (place-put now action path u subtree keyed q) ∙ put-inside now path subtree (places u) q rest e;
    }

  become_else : (xs : List Operation) (q : Path) → same_path path q ≡ false → after_it (Turn.Become xs) q ≡ object_states_of (places u) q
  become_else xs q d = ap (option_map object_state_of) (place-become now action path u xs q ∙ on_at-else path q (become now xs) (places u) d)

  become_here : (xs : List Operation) → list_all is_adjustment xs ≡ true → after_it (Turn.Become xs) path ≡ run xs (object_states_of (places u) path)
  become_here xs h = ap (option_map object_state_of) (place-become now action path u xs path ∙ on_at-here path (become now xs) (places u)) ∙ by (places u path)
    where
      by : (o : Option Object) → option_map object_state_of (option_map (become now xs) o) ≡ run xs (option_map object_state_of o)
      by None = sym (adjusted_none xs h)
      by (Some o) = become-object_state now xs h o

  pub become_done : (xs : List Operation) → list_all is_adjustment xs ≡ true → IsDone (Turn.Become xs)
  become_done xs h = record { outside = outside; inside = inside }
    where
      outside : (q : Path) → rest_under path q ≡ None → after_it (Turn.Become xs) q ≡ object_states_of (places u) q
      outside q e = become_else xs q (same_path-no path q (λ same. (let there : Some [] ≡ None = sym (rest_under-self path) ∙ ap (rest_under path) same ∙ e in cc)))

      inside : (q rest : Path) → rest_under path q ≡ Some rest → after_it (Turn.Become xs) q ≡ after_turn (Turn.Become xs) rest (object_states_of (places u) q)
      inside q [] e = subst (λ (p : Path). after_it (Turn.Become xs) p ≡ run xs (object_states_of (places u) p)) (sym (rest_under-Some path q [] e ∙ append-nil path)) (become_here xs h)
      inside q (name ∷ rest) e = become_else xs q (same_path-no path q (λ same. (let there : Some [] ≡ Some (name ∷ rest) = sym (rest_under-self path) ∙ ap (rest_under path) same ∙ e in cc)))

-- so is each turn of a line that makes an object
module _ (now : ℕ) (making : Making) (path : Path) (u : Files) (is : IsMaking making) where
  new_done : IsDone now (Create making) path u (Turn.Put (single (object_state_of (new_object making.new 0))))
  new_done = put_done now (Create making) path u (single (object_state_of (new_object making.new 0))) (single_keyed making path u (object_state_of (new_object making.new 0)))

  pub making_done : (b : Option ObjectState) → IsDone now (Create making) path u (making_turn making b)
  making_done None = new_done
  making_done (Some x) =
      elim (option_map_or (λ test. stays test (object_state_of (new_object making.new 0)).body x.body) making.renew true) as (λ b. IsDone now (Create making) path u (if not b then Turn.Put (single (object_state_of (new_object making.new 0))) else if same_kind (new_kind making.new.what) x.body.kind then Turn.Become making.sets else Turn.Left x.body.kind)) [
        | true ↦ elim (same_kind (new_kind making.new.what) x.body.kind) as (λ b. IsDone now (Create making) path u (if b then Turn.Become making.sets else Turn.Left x.body.kind)) [
          | true ↦ become_done now (Create making) path u making.sets (only_adjusts (new_kind making.new.what) making.sets is.only)
          | false ↦ left_done now (Create making) path u x.body.kind
        ]
        | false ↦ new_done
      ]

-- ---- the object at the path

module _ (making : Making) (is : IsMaking making) where
  abbrev new_object_state : ObjectState
  new_object_state = object_state_of (new_object making.new 0)

  pub first_make : making.renew ≡ None → first_of making ≡ Make new_object_state
  first_make e = rw e

  pub first_renew : (test : Test) → making.renew ≡ Some test → first_of making ≡ Renew test new_object_state
  first_renew test e = rw e

  -- whether the object at the path stays
  abbrev pub does_stay : Option Test → ObjectState → Bool
  does_stay renew x = option_map_or (λ test. stays test new_object_state.body x.body) renew true

  -- the first operation at the path
  pub first_on_none : done (first_of making) None ≡ Some new_object_state
  first_on_none = by making.renew refl
    where
      by : (r : Option Test) → making.renew ≡ r → done (first_of making) None ≡ Some new_object_state
      by None e = ap (λ (o : Operation). done o None) (first_make e)
      by (Some test) e = ap (λ (o : Operation). done o None) (first_renew test e)

  pub first_on_some : (x : ObjectState) → done (first_of making) (Some x) ≡ Some (cond (does_stay making.renew x) x new_object_state)
  first_on_some x = by making.renew refl
    where
      by : (r : Option Test) → making.renew ≡ r → done (first_of making) (Some x) ≡ Some (cond (does_stay making.renew x) x new_object_state)
      by None e = ap (λ (o : Operation). done o (Some x)) (first_make e) ∙ sym (ap (λ r. Some (cond (does_stay r x) x new_object_state)) e)
      by (Some test) e = ap (λ (o : Operation). done o (Some x)) (first_renew test e) ∙ sym (ap (λ r. Some (cond (does_stay r x) x new_object_state)) e)

  abbrev pub turn_by : Bool → Bool → ObjectState → Turn
  turn_by stay same x = if not stay then Turn.Put (single new_object_state) else if same then Turn.Become making.sets else Turn.Left x.body.kind

  pub object_after : (b : Option ObjectState) → after_turn (making_turn making b) [] b ≡ run (first_of making ∷ making.sets) b
  object_after None = sym (ap (run making.sets) first_on_none ∙ is.once)
  object_after (Some x) = by (does_stay making.renew x) (same_kind (new_kind making.new.what) x.body.kind) refl ∙ sym (ap (run making.sets) (first_on_some x))
    where
      by : (stay same : Bool) → same_kind (new_kind making.new.what) x.body.kind ≡ same → after_turn (turn_by stay same x) [] (Some x) ≡ run making.sets (Some (cond stay x new_object_state))
      by false same e = sym is.once
      by true true e = refl
      by true false e = sym (left_alone (new_kind making.new.what) making.sets is.only x e)

  -- ---- what lies below the path

  directory_is : (kind : Kind) → is_directory kind ≡ true → kind ≡ Directory
  directory_is kind h = grind arith

  pub new_numbers : (what : NewKind) → is_directory (new_kind what) ≡ true → (new_major what ≡ 0) × (new_minor what ≡ 0)
  new_numbers what h = grind arith

  pub clears_none : making.renew ≡ None → clears_below making ≡ false
  clears_none e = rw e

  pub clears_some : (test : Test) → making.renew ≡ Some test → clears_below making ≡ (not test.spares_directories && not (is_directory (new_kind making.new.what)))
  clears_some test e = rw e

  -- a directory, with no numbers
  abbrev pub IsPlainDirectory : ObjectState → Type 0
  IsPlainDirectory x = (is_directory x.body.kind ≡ true) × (x.body.major ≡ 0) × (x.body.minor ≡ 0)

  eqb_zero : (a b : ℕ) → a ≡ 0 → b ≡ 0 → (a == b) ≡ true
  eqb_zero a b e f = grind (arith, nat_tests)

  kind_of_directory : (own kind : Kind) → is_directory kind ≡ true → same_kind own kind ≡ is_directory own
  kind_of_directory own kind h = ap (same_kind own) (directory_is kind h) ∙ (grind arith)

  same_directory : (x : ObjectState) → IsPlainDirectory x → is_directory (new_kind making.new.what) ≡ true → same_substance new_object_state.body x.body ≡ true
  same_directory x dir own =
      let numbers = new_numbers making.new.what own in
      and_from ((not (is_link x.body.kind) || bytes_eq new_object_state.body.payload x.body.payload) && new_object_state.body.major == x.body.major) (new_object_state.body.minor == x.body.minor) (
      and_from (not (is_link x.body.kind) || bytes_eq new_object_state.body.payload x.body.payload) (new_object_state.body.major == x.body.major)
      (ap (λ (k : Kind). not (is_link k) || bytes_eq new_object_state.body.payload x.body.payload) (directory_is x.body.kind dir.0))
      (eqb_zero new_object_state.body.major x.body.major numbers.0 dir.1))
      (eqb_zero new_object_state.body.minor x.body.minor numbers.1 dir.2)

  stays_or_cleared : (own exact same spares : Bool) → (own ≡ true → same ≡ true) → ((own && (not exact || same)) || (spares && true)) ≡ not (not spares && not own)
  stays_or_cleared own exact same spares h = grind arith

  -- a directory stays where what lies below it is not cleared, and goes where it is
  pub directory_stays : (x : ObjectState) → IsPlainDirectory x → does_stay making.renew x ≡ not (clears_below making)
  directory_stays x dir = by making.renew refl
    where
      own : Bool
      own = is_directory (new_kind making.new.what)

      judged : (test : Test) → stays test new_object_state.body x.body ≡ not (not test.spares_directories && not own)
      judged test =
          ap (λ b. (b && (not test.exact || same_substance new_object_state.body x.body)) || (test.spares_directories && is_directory x.body.kind)) (kind_of_directory (new_kind making.new.what) x.body.kind dir.0)
          ∙ ap (λ b. (own && (not test.exact || same_substance new_object_state.body x.body)) || (test.spares_directories && b)) dir.0
          ∙ stays_or_cleared own test.exact (same_substance new_object_state.body x.body) test.spares_directories (same_directory x dir)

      by : (r : Option Test) → making.renew ≡ r → does_stay making.renew x ≡ not (clears_below making)
      by None e = ap (λ r. does_stay r x) e ∙ sym (ap not (clears_none e))
      by (Some test) e = ap (λ r. does_stay r x) e ∙ judged test ∙ sym (ap not (clears_some test e))

  -- what is done at the path leaves below it what is asked there; below what is not a directory nothing stands
  pub below_after : (b c : Option ObjectState) → ((x : ObjectState) → b ≡ Some x → is_directory x.body.kind ≡ true → IsPlainDirectory x) → (is_dir b ≡ false → c ≡ None) → (name : List ℕ) (rest : Path)
      → after_turn (making_turn making b) (name ∷ rest) c ≡ run (cond (clears_below making) (Erase ∷ []) []) c
  below_after None c plain none name rest = sym (ap (run (cond (clears_below making) (Erase ∷ []) [])) (none refl) ∙ by (clears_below making))
    where
      by : (t : Bool) → run (cond t (Erase ∷ []) []) None ≡ None
      by true = refl
      by false = refl
  below_after (Some x) c plain none name rest = by (is_directory x.body.kind) refl
    where
      at : (stay same clears : Bool) → (stay ≡ not clears) ⊎ (c ≡ None) → after_turn (turn_by stay same x) (name ∷ rest) c ≡ run (cond clears (Erase ∷ []) []) c
      at true true false (inl e) = refl
      at true false false (inl e) = refl
      at true same true (inl e) = impossible (sym e)
      at false same true (inl e) = refl
      at false same false (inl e) = impossible e
      at true true false (inr e) = refl
      at true false false (inr e) = refl
      at true true true (inr e) = e
      at true false true (inr e) = e
      at false same true (inr e) = refl
      at false same false (inr e) = sym e

      by : (d : Bool) → is_directory x.body.kind ≡ d → after_turn (making_turn making (Some x)) (name ∷ rest) c ≡ run (cond (clears_below making) (Erase ∷ []) []) c
      by true e = at (does_stay making.renew x) (same_kind (new_kind making.new.what) x.body.kind) (clears_below making) (inl (directory_stays x (plain x refl e)))
      by false e = at (does_stay making.renew x) (same_kind (new_kind making.new.what) x.body.kind) (clears_below making) (inr (none e))

-- ---- what is asked at each path

module _ (making : Making) (path : Path) where
  pub asked_here : (q : Path) → same_path path q ≡ true → made_at making path q ≡ first_of making ∷ making.sets
  asked_here q e = ap (λ b. cond b (first_of making ∷ making.sets) (cond (is_prefix q path) (Make parent_object_state ∷ []) (cond (is_prefix path q && clears_below making) (Erase ∷ []) []))) e

  pub asked_above : (q : Path) → same_path path q ≡ false → is_prefix q path ≡ true → made_at making path q ≡ Make parent_object_state ∷ []
  asked_above q e f =
      ap (λ b. cond b (first_of making ∷ making.sets) (cond (is_prefix q path) (Make parent_object_state ∷ []) (cond (is_prefix path q && clears_below making) (Erase ∷ []) []))) e
      ∙ ap (λ b. cond b (Make parent_object_state ∷ []) (cond (is_prefix path q && clears_below making) (Erase ∷ []) [])) f

  pub asked_else : (q : Path) → same_path path q ≡ false → is_prefix q path ≡ false → made_at making path q ≡ cond (is_prefix path q && clears_below making) (Erase ∷ []) []
  asked_else q e f =
      ap (λ b. cond b (first_of making ∷ making.sets) (cond (is_prefix q path) (Make parent_object_state ∷ []) (cond (is_prefix path q && clears_below making) (Erase ∷ []) []))) e
      ∙ ap (λ b. cond b (Make parent_object_state ∷ []) (cond (is_prefix path q && clears_below making) (Erase ∷ []) [])) f

-- ---- a prepared path

module _ (now : ℕ) (path : Path) (unstaged : has_staging path ≡ false) (t : Files) (shape : IsShaped (object_states_of (places t))) where
  pub ready_here : object_states_of (places (prepare now path t)) path ≡ object_states_of (places t) path
  ready_here = ap (option_map object_state_of) (place-prepare now path t path) ∙ prepared-here now path (places t) unstaged

  pub ready_else : (q : Path) → has_staging q ≡ false → q ≢ path → object_states_of (places (prepare now path t)) q ≡ filled (is_prefix q path) (object_states_of (places t) q)
  ready_else q plain other = ap (option_map object_state_of) (place-prepare now path t q) ∙ prepared-else now path (places t) (dir_there (object_states_of (places t) []) shape.root) q plain other

-- ---- the whole turn

module _ (now : ℕ) (making : Making) (is : IsMaking making) (path : Path) (unstaged : has_staging path ≡ false) (t : Files) (shape : IsShaped (object_states_of (places t))) where
  abbrev ready : Files
  ready = prepare now path t

  is_done : IsDone now (Create making) path ready (making_turn making (object_states_of (places ready) path))
  is_done = making_done now making path ready is (object_states_of (places ready) path)

  -- what is left at a path
  abbrev left : Path → Option ObjectState
  left q = object_states_of (places (carried_out now (Create making) path t)) q

  left_here : left path ≡ run (made_at making path path) (object_states_of (places t) path)
  left_here =
      is_done.inside path [] (rest_under-self path)
      ∙ object_after making is (object_states_of (places ready) path)
      ∙ ap (run (first_of making ∷ making.sets)) (ready_here now path unstaged t shape)
      ∙ sym (ap (λ xs. run xs (object_states_of (places t) path)) (asked_here making path path (same_path-refl path)))

  left_above : (q : Path) → has_staging q ≡ false → same_path path q ≡ false → is_prefix q path ≡ true → left q ≡ run (made_at making path q) (object_states_of (places t) q)
  left_above q plain d above =
      let other : q ≢ path = λ e. true_not_false (same_path path q) ((same_path-decides path q).1 (sym e)) d in
      is_done.outside q (rest_under-None path q (false_from_ne_true _ (λ f. other (is_prefix-antisym q path above f))))
      ∙ ready_else now path unstaged t shape q plain other
      ∙ ap (λ b. filled b (object_states_of (places t) q)) above
      ∙ sym (ap (λ xs. run xs (object_states_of (places t) q)) (asked_above making path q d above))

  left_below : (q : Path) → has_staging q ≡ false → same_path path q ≡ false → is_prefix q path ≡ false → is_prefix path q ≡ true → left q ≡ run (made_at making path q) (object_states_of (places t) q)
  left_below q plain d above below = by (rest_under path q) refl
    where
      other : q ≢ path
      other e = true_not_false (same_path path q) ((same_path-decides path q).1 (sym e)) d

      none : is_dir (object_states_of (places t) path) ≡ false → object_states_of (places t) q ≡ None
      none h = nothing_under (object_states_of (places t)) shape path q plain below (λ f. other (sym f)) h

      asks_there : made_at making path q ≡ cond (clears_below making) (Erase ∷ []) []
      asks_there = asked_else making path q d above ∙ ap (λ b. cond (b && clears_below making) (Erase ∷ []) []) below

      by : (r : Option Path) → rest_under path q ≡ r → left q ≡ run (made_at making path q) (object_states_of (places t) q)
      by None e = absurd (let found = prefix_rest path q below in let no : Some found.0 ≡ None = sym found.1 ∙ e in cc)
      by (Some []) e = absurd (other (rest_under-Some path q [] e ∙ append-nil path))
      by (Some (name ∷ rest)) e =
          is_done.inside q (name ∷ rest) e
          ∙ ap (λ c. after_turn (making_turn making (object_states_of (places ready) path)) (name ∷ rest) c) (ready_else now path unstaged t shape q plain other ∙ ap (λ b. filled b (object_states_of (places t) q)) above)
          ∙ ap (λ b. after_turn (making_turn making b) (name ∷ rest) (object_states_of (places t) q)) (ready_here now path unstaged t shape)
          ∙ below_after making is (object_states_of (places t) path) (object_states_of (places t) q) (λ x f h. (let numbers = shape.plain path x unstaged f h in (h, numbers.0, numbers.1))) none name rest
          ∙ sym (ap (λ xs. run xs (object_states_of (places t) q)) asks_there)

  left_else : (q : Path) → has_staging q ≡ false → same_path path q ≡ false → is_prefix q path ≡ false → is_prefix path q ≡ false → left q ≡ run (made_at making path q) (object_states_of (places t) q)
  left_else q plain d above below =
      is_done.outside q (rest_under-None path q below)
      ∙ ready_else now path unstaged t shape q plain (λ e. true_not_false (same_path path q) ((same_path-decides path q).1 (sym e)) d)
      ∙ ap (λ b. filled b (object_states_of (places t) q)) above
      ∙ sym (ap (λ xs. run xs (object_states_of (places t) q)) (asked_else making path q d above ∙ ap (λ b. cond (b && clears_below making) (Erase ∷ []) []) below))

  -- what is left at each path is what the operations asked there make of what stood there
  pub made_point : (q : Path) → has_staging q ≡ false → left q ≡ run (made_at making path q) (object_states_of (places t) q)
  made_point q plain = elim (path_cases path q) [
    | inl e ↦ subst (λ (p : Path). left p ≡ run (made_at making path p) (object_states_of (places t) p)) e left_here
    | inr d ↦ by d (is_prefix q path) refl (is_prefix path q) refl
  ]
    where
      by : same_path path q ≡ false → (a : Bool) → is_prefix q path ≡ a → (b : Bool) → is_prefix path q ≡ b → left q ≡ run (made_at making path q) (object_states_of (places t) q)
      by d true e b f = left_above q plain d e
      by d false e true f = left_below q plain d e f
      by d false e false f = left_else q plain d e f
