-- A copy that has come to its path, and of which later lines have set some, recovers when it is carried out again.
use Rattle.std.specs.Prelude.{◌≡◌, ℕ, Bool, true, false, cond, ◌&&◌, List, [], ◌∷◌, ◌++◌, take, Option, Some, None, if◌then◌else◌, ◌⊎◌}
use Rattle.std.proofs.Common.{refl, sym, ap, subst, ◌∙◌, inl, inr}
use Rattle.std.specs.List.{list_all}
use Rattle.std.proofs.lemmas.Bool.{and_parts, and_from}
use Rattle.pv_path.specs.Paths.{Path}
use Rattle.pv_steps.specs.declared.node.Kind.{Kind}
use Rattle.pv_steps.specs.Objects.{is_directory}
use Rattle.pv_walk.specs.declared.object_state.ObjectState.{ObjectState}
use Rattle.pv_walk.specs.declared.operation.Operation.{Operation}
use Rattle.pv_walk.specs.Nodes.{same_kind}
use Rattle.pv_walk.specs.Operations.{run}
use Rattle.pv_walk.specs.Reasons.{IsRepeatable}
use Rattle.pv_walk.proofs.OperationLaws.{absorbed, run-append}
use Rattle.pv_table.specs.declared.action.Copying.{Copying}
use Rattle.pv_table.specs.Pointwise.{after_turn}
use Rattle.pv_table.specs.Turns.{Turn, View, copy_of, is_childless, copying_turn}
use Rattle.pv_laws.proofs.Sets.{is_adjustment}
use Rattle.pv_laws.proofs.Shapes.{IsLike, adjusted_like}
use Rattle.pv_laws.proofs.Stops.{take_after}
use Rattle.pv_laws.proofs.Ways.{all_take, parts_adjust}
use Rattle.pv_walk.specs.Dividing.{parts}
use Rattle.pv_walk.proofs.Dividing.{run-parts}
use Rattle.pv_walk.specs.Copying.{Subtree}

-- what is set by a line, then in part by later ones, is set whole by both again
module _ (sets ys : List Operation) (messages_none : IsRepeatable (sets ++ ys)) where
  pub set_again : (k : ℕ) (b : Option ObjectState) → run ys (run sets (run (take k ys) (run sets b))) ≡ run ys (run sets b)
  set_again k b =
      let front = take_after k sets ys in
      ap (λ c. run ys (run sets c)) (sym (run-append sets (take k ys) b) ∙ ap (λ xs. run xs b) (sym front.1))
      ∙ sym (run-append sets ys (run (take front.0 (sets ++ ys)) b))
      ∙ absorbed (sets ++ ys) front.0 b messages_none
      ∙ run-append sets ys b

-- the copy and its path, seen in two trees in which the same is copied
module _ (copying : Copying) (kind : Kind) (path : Path) (v w : View) (top : ObjectState) (is_top : copy_of copying v [] ≡ Some top) (of_kind : same_kind kind top.body.kind ≡ true) (again : run copying.sets (Some top) ≡ Some top)
    -- what later lines set at each path below
    (ys : Path → List Operation) (adjust : (rest : Path) → list_all is_adjustment (ys rest) ≡ true) (both_repeatable : IsRepeatable (copying.sets ++ ys []))
    (set_adjust : list_all is_adjustment copying.sets ≡ true)
    -- what stood there when the line began, how much of it later lines have set
    (a : Path → Option ObjectState) (j : Path → ℕ)
    (full : (x : ObjectState) → a [] ≡ Some x → same_kind kind x.body.kind ≡ true → (is_directory kind && is_childless v path) ≡ false → (is_directory kind && is_childless w path) ≡ false)
    (rest : Path) (repeatable : IsRepeatable (ys rest)) (same : copy_of copying v rest ≡ copy_of copying w rest) where
  abbrev left : Path → Option ObjectState
  left r = after_turn (copying_turn copying v path kind (a [])) r (a r)

  -- the object there now
  abbrev now : Path → Option ObjectState
  now r = run (take (j r) (ys r)) (left r)

  abbrev RecoversAt : Turn → Turn → Type 0
  RecoversAt first second =
      run (ys rest) (after_turn second rest (run (take (j rest) (ys rest)) (after_turn first rest (a rest)))) ≡ run (ys rest) (after_turn first rest (a rest))

  absorbed_there : (b : Option ObjectState) → run (ys rest) (run (take (j rest) (ys rest)) b) ≡ run (ys rest) b
  absorbed_there b = absorbed (ys rest) (j rest) b repeatable

  -- the copy was put: it is put again, or set
  put_put : RecoversAt (Turn.Put (copy_of copying v)) (Turn.Put (copy_of copying w))
  put_put = ap (run (ys rest)) (sym same)

  put_set : (r : Path) → r ≡ rest → run (ys r) (after_turn (Turn.Become copying.sets) r (run (take (j r) (ys r)) (copy_of copying v r))) ≡ run (ys r) (copy_of copying v r)
  put_set [] e =
      ap (λ b. run (ys []) (run copying.sets (run (take (j []) (ys [])) b))) (is_top ∙ sym again)
      ∙ set_again copying.sets (ys []) both_repeatable (j []) (Some top)
      ∙ ap (run (ys [])) (again ∙ sym is_top)
  put_set (name ∷ r) e = absorbed (ys (name ∷ r)) (j (name ∷ r)) (copy_of copying v (name ∷ r)) (subst (λ (p : Path). IsRepeatable (ys p)) (sym e) repeatable)

  -- what was set is set again
  set_set : (r : Path) → r ≡ rest → run (ys r) (after_turn (Turn.Become copying.sets) r (run (take (j r) (ys r)) (after_turn (Turn.Become copying.sets) r (a r)))) ≡ run (ys r) (after_turn (Turn.Become copying.sets) r (a r))
  set_set [] e = set_again copying.sets (ys []) both_repeatable (j []) (a [])
  set_set (name ∷ r) e = absorbed (ys (name ∷ r)) (j (name ∷ r)) (a (name ∷ r)) (subst (λ (p : Path). IsRepeatable (ys p)) (sym e) repeatable)

  -- the second turn, where an object of the kind stands there
  second_same : (y : ObjectState) → same_kind kind y.body.kind ≡ true → (empty : Bool) → (is_directory kind && is_childless w path) ≡ empty → copying_turn copying w path kind (Some y) ≡ cond empty (Turn.Put (copy_of copying w)) (Turn.Become copying.sets)
  second_same y s empty e =
      ap (λ c. if c then (if is_directory kind && is_childless w path then Turn.Put (copy_of copying w) else Turn.Become copying.sets) else if copying.renews then Turn.Put (copy_of copying w) else Turn.Left y.body.kind) s
      ∙ ap (λ c. if c then Turn.Put (copy_of copying w) else Turn.Become copying.sets) e

  -- what later lines set of an object is of its kind
  still : (x : ObjectState) → (y : ObjectState) × (run (take (j []) (ys [])) (Some x) ≡ Some y) × IsLike x y
  still x = adjusted_like (take (j []) (ys [])) (all_take is_adjustment (j []) (ys []) (adjust [])) x

  after_put : RecoversAt (Turn.Put (copy_of copying v)) (copying_turn copying w path kind (run (take (j []) (ys [])) (copy_of copying v [])))
  after_put = subst (λ b. RecoversAt (Turn.Put (copy_of copying v)) (copying_turn copying w path kind b)) (sym (ap (run (take (j []) (ys []))) is_top ∙ (still top).1))
      (by (is_directory kind && is_childless w path) refl)
    where
      of_same : same_kind kind (still top).0.body.kind ≡ true
      of_same = ap (same_kind kind) (still top).2.kind ∙ of_kind

      by : (empty : Bool) → (is_directory kind && is_childless w path) ≡ empty → RecoversAt (Turn.Put (copy_of copying v)) (copying_turn copying w path kind (Some (still top).0))
      by true e = subst (RecoversAt (Turn.Put (copy_of copying v))) (sym (second_same (still top).0 of_same true e)) put_put
      by false e = subst (RecoversAt (Turn.Put (copy_of copying v))) (sym (second_same (still top).0 of_same false e)) (put_set rest refl)

  pub copy_recovers : run (ys rest) (after_turn (copying_turn copying w path kind (now [])) rest (now rest)) ≡ run (ys rest) (left rest)
  copy_recovers = start (a []) refl
    where
      kept : (x : ObjectState) → a [] ≡ Some x → (s : Bool) → same_kind kind x.body.kind ≡ s → (empty : Bool) → (is_directory kind && is_childless v path) ≡ empty → (renews : Bool) → copying.renews ≡ renews
          → RecoversAt (if s then (if empty then Turn.Put (copy_of copying v) else Turn.Become copying.sets) else if renews then Turn.Put (copy_of copying v) else Turn.Left x.body.kind)
          (copying_turn copying w path kind (run (take (j []) (ys [])) (after_turn (if s then (if empty then Turn.Put (copy_of copying v) else Turn.Become copying.sets) else if renews then Turn.Put (copy_of copying v) else Turn.Left x.body.kind) [] (a []))))
      kept x e true s true f renews g = after_put
      kept x e true s false f renews g =
          let first = adjusted_like copying.sets set_adjust x in
          let next = still first.0 in
          let is_next : run (take (j []) (ys [])) (run copying.sets (a [])) ≡ Some next.0 = ap (λ b. run (take (j []) (ys [])) (run copying.sets b)) e ∙ ap (run (take (j []) (ys []))) first.1 ∙ next.1 in
          subst (λ b. RecoversAt (Turn.Become copying.sets) (copying_turn copying w path kind b)) (sym is_next)
          (subst (RecoversAt (Turn.Become copying.sets)) (sym (second_same next.0 (ap (same_kind kind) (next.2.kind ∙ first.2.kind) ∙ s) false (full x e s f))) (set_set rest refl))
      kept x e false s empty f true g = after_put
      kept x e false s empty f false g =
          let next = still x in
          let is_next : run (take (j []) (ys [])) (a []) ≡ Some next.0 = ap (run (take (j []) (ys []))) e ∙ next.1 in
          subst (λ b. RecoversAt (Turn.Left x.body.kind) (copying_turn copying w path kind b)) (sym is_next)
          (subst (RecoversAt (Turn.Left x.body.kind)) (sym (
          ap (λ c. if c then (if is_directory kind && is_childless w path then Turn.Put (copy_of copying w) else Turn.Become copying.sets) else if copying.renews then Turn.Put (copy_of copying w) else Turn.Left next.0.body.kind) (ap (same_kind kind) next.2.kind ∙ s)
          ∙ ap (λ c. if c then Turn.Put (copy_of copying w) else Turn.Left next.0.body.kind) g))
          (absorbed_there (a rest)))

      start : (b : Option ObjectState) → a [] ≡ b → run (ys rest) (after_turn (copying_turn copying w path kind (now [])) rest (now rest)) ≡ run (ys rest) (left rest)
      start None e =
          subst (λ b. RecoversAt (copying_turn copying v path kind b) (copying_turn copying w path kind (run (take (j []) (ys [])) (after_turn (copying_turn copying v path kind b) [] (a []))))) (sym e) after_put
      start (Some x) e =
          subst (λ b. RecoversAt (copying_turn copying v path kind b) (copying_turn copying w path kind (run (take (j []) (ys [])) (after_turn (copying_turn copying v path kind b) [] (a []))))) (sym e)
          (kept x e (same_kind kind x.body.kind) refl (is_directory kind && is_childless v path) refl copying.renews refl)

-- ---- before the copy has come to its path

-- the object at a path below, from what stood there when the line began: the same, some of what is set, or nothing
pub data IsBegun (sets : List Operation) (turn : Turn) (rest : Path) (old new : Option ObjectState) : Type 0 where
  kept : new ≡ old → IsBegun sets turn rest old new
  some_set : (k : ℕ) → rest ≡ [] → turn ≡ Turn.Become sets → new ≡ run (take k (parts sets)) old → IsBegun sets turn rest old new
  gone : (subtree : Subtree) → turn ≡ Turn.Put subtree → new ≡ None → IsBegun sets turn rest old new

module _ (copying : Copying) (kind : Kind) (path : Path) (v w : View) (a c : Path → Option ObjectState) (adjust : list_all is_adjustment copying.sets ≡ true) (repeatable : IsRepeatable (parts copying.sets))
    (begun : (r : Path) → IsBegun copying.sets (copying_turn copying v path kind (a [])) r (a r) (c r))
    (emptier : is_childless v path ≡ true → is_childless w path ≡ true)
    (full : copying_turn copying v path kind (a []) ≡ Turn.Become copying.sets → is_childless w path ≡ is_childless v path)
    (rest : Path) (same : copy_of copying v rest ≡ copy_of copying w rest) where
  -- by the turn that was begun
  put_begun : (subtree : Subtree) → copying_turn copying v path kind (a []) ≡ Turn.Put subtree → (r : Path) → (c r ≡ a r) ⊎ (c r ≡ None)
  put_begun subtree e r = by (begun r)
    where
      by : IsBegun copying.sets (copying_turn copying v path kind (a [])) r (a r) (c r) → (c r ≡ a r) ⊎ (c r ≡ None)
      by (kept f) = inl f
      by (some_set k s t f) = absurd (let no : Turn.Put subtree ≡ Turn.Become copying.sets = sym e ∙ t in cc)
      by (gone other t f) = inr f

  set_begun : copying_turn copying v path kind (a []) ≡ Turn.Become copying.sets → (r : Path) → (c r ≡ a r) ⊎ ((r ≡ []) × ((k : ℕ) × (c r ≡ run (take k (parts copying.sets)) (a r))))
  set_begun e r = by (begun r)
    where
      by : IsBegun copying.sets (copying_turn copying v path kind (a [])) r (a r) (c r) → (c r ≡ a r) ⊎ ((r ≡ []) × ((k : ℕ) × (c r ≡ run (take k (parts copying.sets)) (a r))))
      by (kept f) = inl f
      by (some_set k s t f) = inr (s, (k, f))
      by (gone subtree t f) = absurd (let no : Turn.Become copying.sets ≡ Turn.Put subtree = sym e ∙ t in cc)

  left_begun : (own : Kind) → copying_turn copying v path kind (a []) ≡ Turn.Left own → (r : Path) → c r ≡ a r
  left_begun own e r = by (begun r)
    where
      by : IsBegun copying.sets (copying_turn copying v path kind (a [])) r (a r) (c r) → c r ≡ a r
      by (kept f) = f
      by (some_set k s t f) = absurd (let no : Turn.Left own ≡ Turn.Become copying.sets = sym e ∙ t in cc)
      by (gone subtree t f) = absurd (let no : Turn.Left own ≡ Turn.Put subtree = sym e ∙ t in cc)

  abbrev second : Option ObjectState → Turn
  second b = copying_turn copying w path kind b

  abbrev shown : View → Bool → Bool → Bool → Kind → Turn
  shown x s empty renews own = if s then (if empty then Turn.Put (copy_of copying x) else Turn.Become copying.sets) else if renews then Turn.Put (copy_of copying x) else Turn.Left own

  both_empty : (is_directory kind && is_childless v path) ≡ true → (is_directory kind && is_childless w path) ≡ true
  both_empty e = let two = and_parts (is_directory kind) (is_childless v path) e in and_from (is_directory kind) (is_childless w path) two.0 (emptier two.1)

  as_shown : (y : ObjectState) (s empty renews : Bool) → same_kind kind y.body.kind ≡ s → (is_directory kind && is_childless w path) ≡ empty → copying.renews ≡ renews → second (Some y) ≡ shown w s empty renews y.body.kind
  as_shown y s empty renews e f g =
      ap (λ b. shown w b (is_directory kind && is_childless w path) copying.renews y.body.kind) e
      ∙ ap (λ b. shown w s b copying.renews y.body.kind) f ∙ ap (λ b. shown w s empty b y.body.kind) g

  -- where a copy is to be put, it is put
  puts_then : (subtree : Subtree) → copying_turn copying v path kind (a []) ≡ Turn.Put subtree → (second (a []) ≡ Turn.Put (copy_of copying w)) → second (c []) ≡ Turn.Put (copy_of copying w)
  puts_then subtree e there = by (put_begun subtree e [])
    where
      by : (c [] ≡ a []) ⊎ (c [] ≡ None) → second (c []) ≡ Turn.Put (copy_of copying w)
      by (inl f) = ap second f ∙ there
      by (inr f) = ap second f

  put_end : copying_turn copying v path kind (a []) ≡ Turn.Put (copy_of copying v) → second (a []) ≡ Turn.Put (copy_of copying w) → after_turn (second (c [])) rest (c rest) ≡ after_turn (copying_turn copying v path kind (a [])) rest (a rest)
  put_end e there = ap (λ x. after_turn x rest (c rest)) (puts_then (copy_of copying v) e there) ∙ sym same ∙ sym (ap (λ x. after_turn x rest (a rest)) e)

  set_value : copying_turn copying v path kind (a []) ≡ Turn.Become copying.sets → (r : Path) → after_turn (Turn.Become copying.sets) r (c r) ≡ after_turn (Turn.Become copying.sets) r (a r)
  set_value e [] = by (set_begun e [])
    where
      by : (c [] ≡ a []) ⊎ ((◌≡◌ {A = Path} [] []) × ((k : ℕ) × (c [] ≡ run (take k (parts copying.sets)) (a [])))) → run copying.sets (c []) ≡ run copying.sets (a [])
      by (inl f) = ap (run copying.sets) f
      by (inr f) = ap (run copying.sets) f.1.1 ∙ sym (run-parts copying.sets (run (take f.1.0 (parts copying.sets)) (a []))) ∙ absorbed (parts copying.sets) f.1.0 (a []) repeatable ∙ run-parts copying.sets (a [])
  set_value e (name ∷ r) = by (set_begun e (name ∷ r))
    where
      by : (c (name ∷ r) ≡ a (name ∷ r)) ⊎ ((name ∷ r ≡ []) × ((k : ℕ) × (c (name ∷ r) ≡ run (take k (parts copying.sets)) (a (name ∷ r))))) → c (name ∷ r) ≡ a (name ∷ r)
      by (inl f) = f
      by (inr f) = absurd (let no : name ∷ r ≡ [] = f.0 in cc)

  kind_there : (x : ObjectState) → a [] ≡ Some x → copying_turn copying v path kind (a []) ≡ Turn.Become copying.sets → (y : ObjectState) × (c [] ≡ Some y) × (y.body.kind ≡ x.body.kind)
  kind_there x f e = by (set_begun e [])
    where
      by : (c [] ≡ a []) ⊎ ((◌≡◌ {A = Path} [] []) × ((k : ℕ) × (c [] ≡ run (take k (parts copying.sets)) (a [])))) → (y : ObjectState) × (c [] ≡ Some y) × (y.body.kind ≡ x.body.kind)
      by (inl g) = (x, g ∙ f, refl)
      by (inr g) =
          let like = adjusted_like (take g.1.0 (parts copying.sets)) (all_take is_adjustment g.1.0 (parts copying.sets) (parts_adjust copying.sets adjust)) x in
          (like.0, g.1.1 ∙ ap (run (take g.1.0 (parts copying.sets))) f ∙ like.1, like.2.kind)

  pub begun_recovers : after_turn (second (c [])) rest (c rest) ≡ after_turn (copying_turn copying v path kind (a [])) rest (a rest)
  begun_recovers = start (a []) refl
    where
      with_object : (x : ObjectState) → a [] ≡ Some x → (s : Bool) → same_kind kind x.body.kind ≡ s → (empty : Bool) → (is_directory kind && is_childless v path) ≡ empty → (renews : Bool) → copying.renews ≡ renews
          → copying_turn copying v path kind (a []) ≡ shown v s empty renews x.body.kind → after_turn (second (c [])) rest (c rest) ≡ after_turn (copying_turn copying v path kind (a [])) rest (a rest)
      with_object x f true s true e renews g turn = put_end turn (ap second f ∙ as_shown x true true renews s (both_empty e) g)
      with_object x f true s false e renews g turn =
          let there = kind_there x f turn in
          ap (λ b. after_turn (second b) rest (c rest)) there.1
          ∙ ap (λ y. after_turn y rest (c rest)) (as_shown there.0 true false renews (ap (same_kind kind) there.2 ∙ s) (ap (λ b. is_directory kind && b) (full turn) ∙ e) g)
          ∙ set_value turn rest ∙ sym (ap (λ y. after_turn y rest (a rest)) turn)
      with_object x f false s empty e true g turn = put_end turn (ap second f ∙ as_shown x false (is_directory kind && is_childless w path) true s refl g)
      with_object x f false s empty e false g turn =
          ap (λ b. after_turn (second b) rest (c rest)) (left_begun x.body.kind turn [] ∙ f)
          ∙ ap (λ y. after_turn y rest (c rest)) (as_shown x false (is_directory kind && is_childless w path) false s refl g)
          ∙ left_begun x.body.kind turn rest ∙ sym (ap (λ y. after_turn y rest (a rest)) turn)

      start : (b : Option ObjectState) → a [] ≡ b → after_turn (second (c [])) rest (c rest) ≡ after_turn (copying_turn copying v path kind (a [])) rest (a rest)
      start None f = put_end (ap (copying_turn copying v path kind) f) (ap second f)
      start (Some x) f = with_object x f (same_kind kind x.body.kind) refl (is_directory kind && is_childless v path) refl copying.renews refl (ap (copying_turn copying v path kind) f)
