-- What a line that copies leaves has the shape that the laws need, as what it found had it.
use Rattle.std.specs.Prelude.{◌≡◌, ◌≢◌, ◌⊎◌, ℕ, Bool, true, false, cond, ◌&&◌, ◌||◌, List, [], ◌∷◌, ◌++◌, Option, Some, None, is_some, option_map, unwrap_or, if◌then◌else◌}
use Rattle.std.proofs.Common.{refl, sym, ap, subst, ◌∙◌, inl, inr, append_assoc, arith}
use Rattle.std.proofs.lemmas.List.{append-nil}
use Rattle.std.specs.List.{list_all}
use Rattle.std.proofs.lemmas.Option.{same_Some}
use Rattle.std.proofs.lemmas.Bool.{or_parts, and_parts, false_from_ne_true}
use Rattle.pv_path.specs.Paths.{has_names, Path, same_path, is_prefix, rest_under, has_staging, same_path-decides}
use Rattle.pv_path.proofs.PathLaws.{has_names-append, has_names-both, has_names-prefix, is_prefix-append, is_prefix-trans, is_prefix-antisym, prefix_parts, prefixes_compare, rest_under-self, rest_under-append, rest_under-Some, rest_under-None, is_some-rest_under, has_staging-append}
use Rattle.pv_steps.specs.declared.node.Kind.{Kind}
use Rattle.pv_steps.specs.Objects.{is_directory}
use Rattle.pv_steps.specs.Trees.{Files, places}
use Rattle.pv_walk.specs.declared.object_state.ObjectState.{ObjectState}
use Rattle.pv_walk.specs.declared.object_state.Body.{Body}
use Rattle.pv_walk.specs.Nodes.{object_states_of, is_link, same_kind}
use Rattle.pv_walk.specs.declared.object_state.Metadata.{Metadata}
use Rattle.pv_walk.specs.Operations.{with_mode, run}
use Rattle.pv_lines.specs.declared.line.LineMode.{LineMode}
use Rattle.pv_walk.proofs.EditLaws.{path_cases}
use Rattle.pv_walk.specs.Preparing.{IsAbove}
use Rattle.pv_table.specs.declared.action.Copying.{Copying}
use Rattle.pv_table.specs.declared.action.Action.TheVariants.{Copy}
use Rattle.pv_table.specs.ActionTable.{mode_for_new}
use Rattle.pv_table.specs.Effects.{prepare, carried_out}
use Rattle.pv_table.specs.Pointwise.{parent_object_state, after_turn}
use Rattle.pv_table.specs.Turns.{Turn, View, view_of, topped_by, copy_of, is_childless, copying_turn}
use Rattle.pv_laws.proofs.Copies.{source_ready, left_inside, left_outside, below_ready}
use Rattle.pv_laws.proofs.Making.{is_dir, IsShaped, ready_here, ready_else}
use Rattle.pv_laws.proofs.Prepared.{filled}
use Rattle.pv_laws.proofs.Sets.{impossible, is_adjustment, adjusted_none}
use Rattle.pv_laws.proofs.Shapes.{adjusted_like, plain_prefix}
use Rattle.pv_path.proofs.Tests.{true_not_false}

-- a copied object is what its source is
pub topped_body : (copying : Copying) (b : ObjectState) → (topped_by copying b).body ≡ b.body
topped_body copying b = by copying.mode refl
  where
    by : (m : Option LineMode) → copying.mode ≡ m → (topped_by copying b).body ≡ b.body
    by None e = rw e
    by (Some mode) e = rw e (at (is_link b.body.kind) (with_mode b.body.kind (mode_for_new (Some mode) (is_directory b.body.kind)) false (record b.metadata { uid = unwrap_or copying.uid b.metadata.uid; gid = unwrap_or copying.gid b.metadata.gid })))
      where
        owned : ObjectState
        owned = record b { metadata = record b.metadata { uid = unwrap_or copying.uid b.metadata.uid; gid = unwrap_or copying.gid b.metadata.gid } }

        at : (l : Bool) (d : Metadata) → (cond l owned (record owned { metadata = d })).body ≡ b.body
        at true d = refl
        at false d = refl

-- what is done at a path by a copy: the whole copy stands there, or it is adjusted, or left
pub data IsCopyTurn (copying : Copying) (view : View) (turn : Turn) : Type 0 where
  puts : turn ≡ Turn.Put (copy_of copying view) → IsCopyTurn copying view turn
  becomes : turn ≡ Turn.Become copying.sets → IsCopyTurn copying view turn
  leaves : (kind : Kind) → turn ≡ Turn.Left kind → IsCopyTurn copying view turn

pub copy_turns : (copying : Copying) (view : View) (path : Path) (kind : Kind) (b : Option ObjectState) → IsCopyTurn copying view (copying_turn copying view path kind b)
copy_turns copying view path kind None = puts refl
copy_turns copying view path kind (Some x) = by (same_kind kind x.body.kind) (is_directory kind && is_childless view path) copying.renews
  where
    by : (same empty renews : Bool) → IsCopyTurn copying view (if same then (if empty then Turn.Put (copy_of copying view) else Turn.Become copying.sets) else if renews then Turn.Put (copy_of copying view) else Turn.Left x.body.kind)
    by true true renews = puts refl
    by true false renews = becomes refl
    by false empty true = puts refl
    by false empty false = leaves x.body.kind refl

module _ (now : ℕ) (copying : Copying) (adjust : list_all is_adjustment copying.sets ≡ true) (path : Path) (unstaged : has_staging path ≡ false) (plain_source : has_staging copying.source ≡ false)
    (t : Files) (shape : IsShaped (object_states_of (places t))) (b : ObjectState) (present : object_states_of (places t) copying.source ≡ Some b)
    (named : path ≢ []) (pass : (p : Path) → is_prefix p path ≡ true → p ≢ path → is_some (object_states_of (places t) p) ≡ true → is_dir (object_states_of (places t) p) ≡ true) where
  abbrev old : Path → Option ObjectState
  old q = object_states_of (places t) q

  abbrev left : Path → Option ObjectState
  left q = object_states_of (places (carried_out now (Copy copying) path t)) q

  abbrev turn_there : Turn
  turn_there = copying_turn copying (view_of (prepare now path t)) path b.body.kind (object_states_of (places (prepare now path t)) path)

  -- what is left, by where a path lies
  pub at_inside : (q rest : Path) → has_staging q ≡ false → rest_under path q ≡ Some rest → left q ≡ after_turn turn_there rest (old q)
  at_inside q rest plain e =
      left_inside now copying adjust path unstaged plain_source t shape b present q rest e
      ∙ ap (after_turn turn_there rest) (below_ready now copying adjust path unstaged plain_source t shape b present q rest plain e)

  pub at_outside : (q : Path) → has_staging q ≡ false → rest_under path q ≡ None → left q ≡ filled (is_prefix q path) (old q)
  at_outside q plain e =
      left_outside now copying adjust path unstaged plain_source t shape b present q e
      ∙ ready_else now path unstaged t shape q plain (λ same. (let there : Some [] ≡ None = sym (rest_under-self path) ∙ ap (rest_under path) (sym same) ∙ e in cc))

  keeps_dir : (above : Bool) (c : Option ObjectState) → is_dir c ≡ true → is_dir (filled above c) ≡ true
  keeps_dir above c h = grind arith

  -- ---- the tree whose path is prepared

  abbrev ready : Path → Option ObjectState
  ready q = object_states_of (places (prepare now path t)) q

  ready_is : (q : Path) → has_staging q ≡ false → (ready q ≡ old q) ⊎ (IsAbove q path × (ready q ≡ filled true (old q)))
  ready_is q plain = elim (path_cases q path) [
    | inl same ↦ inl (subst (λ (p : Path). ready p ≡ old p) (sym same) (ready_here now path unstaged t shape))
    | inr d ↦ by (λ same. true_not_false (same_path q path) ((same_path-decides q path).1 same) d) (is_prefix q path) refl
  ]
    where
      by : q ≢ path → (c : Bool) → is_prefix q path ≡ c → (ready q ≡ old q) ⊎ (IsAbove q path × (ready q ≡ filled true (old q)))
      by other true e = inr ((e, other), ready_else now path unstaged t shape q plain other ∙ ap (λ c. filled c (old q)) e)
      by other false e = inl (ready_else now path unstaged t shape q plain other ∙ ap (λ c. filled c (old q)) e)

  -- above the path stand directories
  high_dir : (p : Path) → has_staging p ≡ false → is_prefix p path ≡ true → p ≢ path → is_dir (filled true (old p)) ≡ true
  high_dir p plain high other = grind arith

  ready_dir : (p : Path) → has_staging p ≡ false → is_dir (old p) ≡ true → is_dir (ready p) ≡ true
  ready_dir p plain h = by (ready_is p plain)
    where
      by : (ready p ≡ old p) ⊎ (IsAbove p path × (ready p ≡ filled true (old p))) → is_dir (ready p) ≡ true
      by (inl e) = ap is_dir e ∙ h
      by (inr two) = ap is_dir two.1 ∙ keeps_dir true (old p) h

  ready_above : (p q : Path) → has_staging q ≡ false → is_prefix p q ≡ true → p ≢ q → is_some (ready q) ≡ true → is_dir (ready p) ≡ true
  ready_above p q plain above other there = by (ready_is q plain)
    where
      by : (ready q ≡ old q) ⊎ (IsAbove q path × (ready q ≡ filled true (old q))) → is_dir (ready p) ≡ true
      by (inl e) = ready_dir p (plain_prefix p q above plain) (shape.above p q plain above other (sym (ap is_some e) ∙ there))
      by (inr two) =
          let high : is_prefix p path ≡ true = is_prefix-trans p q path above two.0.0 in
          let differ : p ≢ path = (λ same. two.0.1 (is_prefix-antisym q path two.0.0 (ap (λ r. is_prefix r q) (sym same) ∙ above))) in
          ap is_dir (ready_else now path unstaged t shape p (plain_prefix p q above plain) differ ∙ ap (λ c. filled c (old p)) high) ∙ high_dir p (plain_prefix p q above plain) high differ

  filled_numbers : (q : Path) → has_staging q ≡ false → (above : Bool) (c : Option ObjectState) → old q ≡ c → (x : ObjectState) → filled above c ≡ Some x → is_directory x.body.kind ≡ true → (x.body.major ≡ 0) × (x.body.minor ≡ 0)
  filled_numbers q plain true None f x e h = subst (λ (y : ObjectState). (y.body.major ≡ 0) × (y.body.minor ≡ 0)) (same_Some parent_object_state x e) (refl, refl)
  filled_numbers q plain true (Some y) f x e h = shape.plain q x plain (f ∙ e) h
  filled_numbers q plain false c f x e h = shape.plain q x plain (f ∙ e) h

  ready_numbers : (q : Path) (x : ObjectState) → has_staging q ≡ false → ready q ≡ Some x → is_directory x.body.kind ≡ true → (x.body.major ≡ 0) × (x.body.minor ≡ 0)
  ready_numbers q x plain e h = by (ready_is q plain)
    where
      by : (ready q ≡ old q) ⊎ (IsAbove q path × (ready q ≡ filled true (old q))) → (x.body.major ≡ 0) × (x.body.minor ≡ 0)
      by (inl f) = shape.plain q x plain (sym f ∙ e) h
      by (inr two) = filled_numbers q plain true (old q) refl x (sym two.1 ∙ e) h

  -- ---- the copy, by the object there

  copy_top : copy_of copying (view_of (prepare now path t)) [] ≡ Some (topped_by copying b)
  copy_top = ap (option_map (topped_by copying)) (source_ready now copying adjust path unstaged plain_source t shape b present ∙ present)

  copy_below : (name : List ℕ) (rest : Path) → copy_of copying (view_of (prepare now path t)) (name ∷ rest) ≡ cond (has_staging (name ∷ rest)) None (ready (copying.source ++ name ∷ rest))
  copy_below name rest = refl

  source_plain : (rest : Path) → has_staging rest ≡ false → has_staging (copying.source ++ rest) ≡ false
  source_plain rest plain = has_staging-append copying.source rest ∙ ap (λ c. c || has_staging rest) plain_source ∙ plain

  -- what is copied has no staging name
  copied_there : (name : List ℕ) (rest : Path) → is_some (copy_of copying (view_of (prepare now path t)) (name ∷ rest)) ≡ true → (has_staging (name ∷ rest) ≡ false) × (is_some (ready (copying.source ++ name ∷ rest)) ≡ true)
  copied_there name rest h = by (has_staging (name ∷ rest)) refl (sym (ap is_some (copy_below name rest)) ∙ h)
    where
      by : (c : Bool) → has_staging (name ∷ rest) ≡ c → is_some (cond c None (ready (copying.source ++ name ∷ rest))) ≡ true → (has_staging (name ∷ rest) ≡ false) × (is_some (ready (copying.source ++ name ∷ rest)) ≡ true)
      by c e g = grind arith

  source_above : (front back : Path) → is_prefix (copying.source ++ front) (copying.source ++ (front ++ back)) ≡ true
  source_above front back = subst (λ (p : Path). is_prefix (copying.source ++ front) p ≡ true) (append_assoc copying.source front back) (is_prefix-append (copying.source ++ front) back)

  longer : (p : Path) (name : List ℕ) (rest : Path) → p ≢ p ++ name ∷ rest
  longer p name rest e = (let there : Some [] ≡ Some (name ∷ rest) = sym (rest_under-self p) ∙ ap (rest_under p) e ∙ rest_under-append p (name ∷ rest) in cc)

  -- above what is copied stand directories
  copied_dir : (front : Path) (name : List ℕ) (back : Path) → is_some (copy_of copying (view_of (prepare now path t)) (front ++ name ∷ back)) ≡ true → is_dir (copy_of copying (view_of (prepare now path t)) front) ≡ true
  copied_dir [] name back h =
      let there = copied_there name back h in
      ap is_dir copy_top ∙ ap (λ (y : Body). is_directory y.kind) (topped_body copying b)
      ∙ sym (ap is_dir (source_ready now copying adjust path unstaged plain_source t shape b present ∙ present))
      ∙ ready_above copying.source (copying.source ++ name ∷ back) (source_plain (name ∷ back) there.0) (is_prefix-append copying.source (name ∷ back)) (longer copying.source name back) there.1
  copied_dir (first ∷ front) name back h =
      let there = copied_there first (front ++ name ∷ back) h in
      let plain : has_staging (first ∷ front) ≡ false = (or_parts (has_staging (first ∷ front)) (has_staging (name ∷ back)) (sym (has_staging-append (first ∷ front) (name ∷ back)) ∙ there.0)).0 in
      ap is_dir (copy_below first front) ∙ ap (λ c. is_dir (cond c None (ready (copying.source ++ first ∷ front)))) plain
      ∙ ready_above (copying.source ++ first ∷ front) (copying.source ++ (first ∷ front ++ name ∷ back)) (source_plain (first ∷ front ++ name ∷ back) there.0) (source_above (first ∷ front) (name ∷ back))
      (λ e. longer (copying.source ++ first ∷ front) name back (e ∙ sym (append_assoc copying.source (first ∷ front) (name ∷ back)))) there.1

  -- a directory that was there stays one, where it is adjusted
  set_dir : (c : Option ObjectState) → is_dir c ≡ true → is_dir (run copying.sets c) ≡ true
  set_dir None h = impossible h
  set_dir (Some x) h = let like = adjusted_like copying.sets adjust x in ap is_dir like.1 ∙ ap is_directory like.2.kind ∙ h

  -- at and below the path
  inside_dir : (turn : Turn) → IsCopyTurn copying (view_of (prepare now path t)) turn → (front : Path) (name : List ℕ) (back : Path) (c d : Option ObjectState) → (is_some d ≡ true → is_dir c ≡ true) → is_some (after_turn turn (front ++ name ∷ back) d) ≡ true → is_dir (after_turn turn front c) ≡ true
  inside_dir turn (puts e) front name back c d over h = ap (λ x. is_dir (after_turn x front c)) e ∙ copied_dir front name back (sym (ap (λ x. is_some (after_turn x (front ++ name ∷ back) d)) e) ∙ h)
  inside_dir turn (becomes e) [] name back c d over h = ap (λ x. is_dir (after_turn x [] c)) e ∙ set_dir c (over (sym (ap (λ x. is_some (after_turn x (name ∷ back) d)) e) ∙ h))
  inside_dir turn (becomes e) (first ∷ front) name back c d over h = ap (λ x. is_dir (after_turn x (first ∷ front) c)) e ∙ over (sym (ap (λ x. is_some (after_turn x (first ∷ front ++ name ∷ back) d)) e) ∙ h)
  inside_dir turn (leaves kind e) front name back c d over h = ap (λ x. is_dir (after_turn x front c)) e ∙ over (sym (ap (λ x. is_some (after_turn x (front ++ name ∷ back) d)) e) ∙ h)

  dir_above : (p : Path) → has_staging p ≡ false → is_prefix p path ≡ true → p ≢ path → is_dir (left p) ≡ true
  dir_above p plain high other = ap is_dir (at_outside p plain (rest_under-None path p (false_from_ne_true _ (λ e. other (is_prefix-antisym p path high e)))) ∙ ap (λ c. filled c (old p)) high) ∙ high_dir p plain high other

  over : (p q : Path) → has_staging q ≡ false → is_prefix p q ≡ true → p ≢ q → is_some (left q) ≡ true → is_dir (left p) ≡ true
  over p q plain above other there = by (rest_under path q) refl (rest_under path p) refl
    where
      plain_above : has_staging p ≡ false
      plain_above = plain_prefix p q above plain

      -- both at or below the path
      both_inside : (rest front : Path) → rest_under path q ≡ Some rest → rest_under path p ≡ Some front → is_dir (left p) ≡ true
      both_inside rest front e f = at (parts.0) parts.1
        where
          parts : (r : Path) × (q ≡ p ++ r)
          parts = prefix_parts p q above

          joined : (r : Path) → q ≡ p ++ r → rest ≡ front ++ r
          joined r g = same (sym e ∙ ap (rest_under path) (g ∙ ap (λ x. x ++ r) (rest_under-Some path p front f) ∙ append_assoc path front r) ∙ rest_under-append path (front ++ r))
            where
              same : Some rest ≡ Some (front ++ r) → rest ≡ front ++ r
              same k = cc

          at : (r : Path) → q ≡ p ++ r → is_dir (left p) ≡ true
          at [] g = absurd (other (sym (g ∙ append-nil p)))
          at (name ∷ back) g =
              ap is_dir (at_inside p front plain_above f)
              ∙ inside_dir turn_there (copy_turns copying (view_of (prepare now path t)) path b.body.kind (object_states_of (places (prepare now path t)) path)) front name back (old p) (old q) (λ h. shape.above p q plain above other h)
              (ap (λ r. is_some (after_turn turn_there r (old q))) (sym (joined (name ∷ back) g)) ∙ sym (ap is_some (at_inside q rest plain e)) ∙ there)

      by : (r : Option Path) → rest_under path q ≡ r → (f : Option Path) → rest_under path p ≡ f → is_dir (left p) ≡ true
      by (Some rest) e (Some front) f = both_inside rest front e f
      by (Some rest) e None f = dir_above p plain_above (high (prefixes_compare p path q above (sym (is_some-rest_under path q) ∙ ap is_some e))) apart_path
        where
          lower : is_prefix path p ≡ false
          lower = sym (is_some-rest_under path p) ∙ ap is_some f

          high : (is_prefix p path ≡ true) ⊎ (is_prefix path p ≡ true) → is_prefix p path ≡ true
          high (inl g) = g
          high (inr g) = absurd (true_not_false (is_prefix path p) g lower)

          apart_path : p ≢ path
          apart_path same = (let here : Some [] ≡ None = sym (rest_under-self path) ∙ ap (rest_under path) (sym same) ∙ f in cc)
      by None e (Some front) f = absurd (true_not_false (is_prefix path q) (is_prefix-trans path p q (sym (is_some-rest_under path p) ∙ ap is_some f) above) (sym (is_some-rest_under path q) ∙ ap is_some e))
      by None e None f = at (is_prefix q path) refl (sym (ap is_some (at_outside q plain e)) ∙ there)
        where
          apart_path : p ≢ path
          apart_path same = (let here : Some [] ≡ None = sym (rest_under-self path) ∙ ap (rest_under path) (sym same) ∙ f in cc)

          at : (c : Bool) → is_prefix q path ≡ c → is_some (filled (is_prefix q path) (old q)) ≡ true → is_dir (left p) ≡ true
          at true g h = dir_above p plain_above (is_prefix-trans p q path above g) apart_path
          at false g h = ap is_dir (at_outside p plain_above f) ∙ keeps_dir (is_prefix p path) (old p) (shape.above p q plain above other (sym (ap (λ c. is_some (filled c (old q))) g) ∙ h))

  -- directories have no numbers
  put_numbers : (rest : Path) (x : ObjectState) → copy_of copying (view_of (prepare now path t)) rest ≡ Some x → is_directory x.body.kind ≡ true → (x.body.major ≡ 0) × (x.body.minor ≡ 0)
  put_numbers [] x e h =
      let body : x.body ≡ b.body = ap (λ (y : ObjectState). y.body) (same_Some x (topped_by copying b) (sym e ∙ copy_top)) ∙ topped_body copying b in
      let numbers = shape.plain copying.source b plain_source present (ap (λ (y : Body). is_directory y.kind) (sym body) ∙ h) in
      (ap (λ (y : Body). y.major) body ∙ numbers.0, ap (λ (y : Body). y.minor) body ∙ numbers.1)
  put_numbers (name ∷ rest) x e h =
      let there = copied_there name rest (ap is_some e) in
      ready_numbers (copying.source ++ name ∷ rest) x (source_plain (name ∷ rest) there.0) (sym (ap (λ c. cond c None (ready (copying.source ++ name ∷ rest))) there.0) ∙ sym (copy_below name rest) ∙ e) h

  set_numbers : (q : Path) → has_staging q ≡ false → (c : Option ObjectState) → old q ≡ c → (x : ObjectState) → run copying.sets c ≡ Some x → is_directory x.body.kind ≡ true → (x.body.major ≡ 0) × (x.body.minor ≡ 0)
  set_numbers q plain None f x e h = absurd (let no : None ≡ Some x = sym (adjusted_none copying.sets adjust) ∙ e in cc)
  set_numbers q plain (Some y) f x e h =
      let like = adjusted_like copying.sets adjust y in
      let same : like.0 ≡ x = same_Some like.0 x (sym like.1 ∙ e) in
      let numbers = shape.plain q y plain f (sym (ap is_directory like.2.kind) ∙ ap (λ (z : ObjectState). is_directory z.body.kind) same ∙ h) in
      (sym (ap (λ (z : ObjectState). z.body.major) same) ∙ like.2.major ∙ numbers.0, sym (ap (λ (z : ObjectState). z.body.minor) same) ∙ like.2.minor ∙ numbers.1)

  inside_numbers : (turn : Turn) → IsCopyTurn copying (view_of (prepare now path t)) turn → (q rest : Path) → has_staging q ≡ false → (x : ObjectState) → after_turn turn rest (old q) ≡ Some x → is_directory x.body.kind ≡ true → (x.body.major ≡ 0) × (x.body.minor ≡ 0)
  inside_numbers turn (puts e) q rest plain x f h = put_numbers rest x (sym (ap (λ y. after_turn y rest (old q)) e) ∙ f) h
  inside_numbers turn (becomes e) q [] plain x f h = set_numbers q plain (old q) refl x (sym (ap (λ y. after_turn y [] (old q)) e) ∙ f) h
  inside_numbers turn (becomes e) q (name ∷ rest) plain x f h = shape.plain q x plain (sym (ap (λ y. after_turn y (name ∷ rest) (old q)) e) ∙ f) h
  inside_numbers turn (leaves kind e) q rest plain x f h = shape.plain q x plain (sym (ap (λ y. after_turn y rest (old q)) e) ∙ f) h

  numbers_at : (q : Path) (x : ObjectState) → has_staging q ≡ false → left q ≡ Some x → is_directory x.body.kind ≡ true → (x.body.major ≡ 0) × (x.body.minor ≡ 0)
  numbers_at q x plain e h = by (rest_under path q) refl
    where
      by : (r : Option Path) → rest_under path q ≡ r → (x.body.major ≡ 0) × (x.body.minor ≡ 0)
      by None f = filled_numbers q plain (is_prefix q path) (old q) refl x (sym (at_outside q plain f) ∙ e) h
      by (Some rest) f = inside_numbers turn_there (copy_turns copying (view_of (prepare now path t)) path b.body.kind (object_states_of (places (prepare now path t)) path)) q rest plain x (sym (at_inside q rest plain f) ∙ e) h

  -- what is left has names
  module _ (names : has_names path ≡ true) where
    filled_named : (q : Path) → has_staging q ≡ false → (above : Bool) → is_prefix q path ≡ above → is_some (filled above (old q)) ≡ true → has_names q ≡ true
    filled_named q plain true high there = has_names-prefix q path high names
    filled_named q plain false high there = shape.named q plain there

    ready_named : (q : Path) → has_staging q ≡ false → is_some (ready q) ≡ true → has_names q ≡ true
    ready_named q plain there = by (ready_is q plain)
      where
        by : (ready q ≡ old q) ⊎ (IsAbove q path × (ready q ≡ filled true (old q))) → has_names q ≡ true
        by (inl e) = shape.named q plain (sym (ap is_some e) ∙ there)
        by (inr two) = has_names-prefix q path two.0.0 names

    put_named : (rest : Path) → is_some (copy_of copying (view_of (prepare now path t)) rest) ≡ true → has_names (path ++ rest) ≡ true
    put_named [] there = ap has_names (append-nil path) ∙ names
    put_named (name ∷ rest) there =
        let copied = copied_there name rest there in
        let whole : has_names (copying.source ++ name ∷ rest) ≡ true = ready_named (copying.source ++ name ∷ rest) (source_plain (name ∷ rest) copied.0) copied.1 in
        has_names-both path (name ∷ rest) names (and_parts (has_names copying.source) (has_names (name ∷ rest)) (sym (has_names-append copying.source (name ∷ rest)) ∙ whole)).1

    set_there : (c : Option ObjectState) → is_some (run copying.sets c) ≡ true → is_some c ≡ true
    set_there None h = sym (ap is_some (adjusted_none copying.sets adjust)) ∙ h
    set_there (Some x) h = refl

    inside_named : (turn : Turn) → IsCopyTurn copying (view_of (prepare now path t)) turn → (q rest : Path) → has_staging q ≡ false → q ≡ path ++ rest → is_some (after_turn turn rest (old q)) ≡ true → has_names q ≡ true
    inside_named turn (puts e) q rest plain at h = ap has_names at ∙ put_named rest (sym (ap (λ y. is_some (after_turn y rest (old q))) e) ∙ h)
    inside_named turn (becomes e) q [] plain at h = shape.named q plain (set_there (old q) (sym (ap (λ y. is_some (after_turn y [] (old q))) e) ∙ h))
    inside_named turn (becomes e) q (name ∷ rest) plain at h = shape.named q plain (sym (ap (λ y. is_some (after_turn y (name ∷ rest) (old q))) e) ∙ h)
    inside_named turn (leaves kind e) q rest plain at h = shape.named q plain (sym (ap (λ y. is_some (after_turn y rest (old q))) e) ∙ h)

    named_at : (q : Path) → has_staging q ≡ false → is_some (left q) ≡ true → has_names q ≡ true
    named_at q plain there = by (rest_under path q) refl
      where
        by : (r : Option Path) → rest_under path q ≡ r → has_names q ≡ true
        by None f = filled_named q plain (is_prefix q path) refl (sym (ap is_some (at_outside q plain f)) ∙ there)
        by (Some rest) f = inside_named turn_there (copy_turns copying (view_of (prepare now path t)) path b.body.kind (object_states_of (places (prepare now path t)) path)) q rest plain
            (rest_under-Some path q rest f) (sym (ap is_some (at_inside q rest plain f)) ∙ there)

  pub copied_shaped : has_names path ≡ true → IsShaped left
  copied_shaped names = record {
    root = dir_above [] refl refl (λ e. named (sym e));
    above = over;
    plain = numbers_at;
    named = named_at names;
  }
