-- The object at each path after an object is changed, and after children come, go and move.
use Rattle.std.proofs.Common.{◌≡◌, ◌≢◌, ℕ, Bool, true, false, cond, List, [], ◌∷◌, ◌++◌, Option, Some, None, option_map, refl, sym, ap, ◌∙◌}
use Rattle.std.specs.Option.{option_and_then}
use Rattle.std.proofs.lemmas.List.{append-nil}
use Rattle.pv_path.specs.Paths.{Path, is_prefix, rest_under, same_path, parent_of, same_path-decides}
use Rattle.pv_path.proofs.PathLaws.{is_prefix-append, is_prefix-refl, is_prefix-trans, prefix_parts, rest_under-Some, parent_of-push}
use Rattle.pv_steps.specs.declared.object.Object.{Object}
use Rattle.pv_steps.specs.Objects.{changed, modified}
use Rattle.pv_steps.specs.Trees.{Places}
use Rattle.pv_steps.specs.Steps.{put_at, on_at, touched, moved, moved_at, carried}
use Rattle.pv_tree.specs.Edges.{Edges, Objects, led, IsSet, IsChanged, places_by}
use Rattle.pv_tree.proofs.EdgeLaws.{Once, made_is, made_else, gone_under, gone_else, moved_under, moved_else, moved_none, no_longer, no_more, led-on}
use Rattle.pv_steps.proofs.TreeLaws.{no_rest_no_prefix}

-- ---- an object changed

module _ (g : Edges) (a b : Objects) (k : ℕ) (f : Object → Object) (path : Path) (change : IsChanged k f a b) (once : Once g) (at : led g 0 path ≡ Some k) where
  changed_at : (q : Path) → places_by g b q ≡ on_at path f (places_by g a) q
  changed_at q = by (same_path path q) refl
    where
      elsewhere : path ≢ q → (o : Option ℕ) → led g 0 q ≡ o → option_and_then b o ≡ option_and_then a o
      elsewhere other None e = refl
      elsewhere other (Some i) e = change.else i (λ same. other (once path q k at (e ∙ ap Some same)))

      by : (t : Bool) → same_path path q ≡ t → places_by g b q ≡ cond t (option_map f (places_by g a q)) (places_by g a q)
      by true e =
          let there : led g 0 q ≡ Some k = sym (ap (led g 0) ((same_path-decides path q).0 e)) ∙ at in
          ap (option_and_then b) there ∙ change.here ∙ sym (ap (λ o. option_map f (option_and_then a o)) there)
      by false e = elsewhere (λ same. let yes : same_path path q ≡ true = (same_path-decides path q).1 same in let no : true ≡ false = sym yes ∙ e in cc) (led g 0 q) refl

  pub places_changed : places_by g b ≡ on_at path f (places_by g a)
  places_changed = λ j q. changed_at q j

-- where nothing stands nothing is changed
pub places_unchanged : (path : Path) (f : Object → Object) (t : Places) → t path ≡ None → t ≡ on_at path f t
places_unchanged path f t none = λ j q. at q j
  where
    at : (q : Path) → t q ≡ on_at path f t q
    at q = by (same_path path q) refl
      where
        by : (b : Bool) → same_path path q ≡ b → t q ≡ cond b (option_map f (t q)) (t q)
        by true e = let absent : t q ≡ None = sym (ap t ((same_path-decides path q).0 e)) ∙ none in absent ∙ sym (ap (option_map f) absent)
        by false e = refl

-- ---- a child comes

module _ (g h : Edges) (a b : Objects) (d : Path) (k f : ℕ) (n : List ℕ) (o : Object) (change : IsSet k n (Some f) g h) (once : Once g) (at : led g 0 d ≡ Some k)
    (object_state : (m : List ℕ) → g f m ≡ None) (unreached : (p : Path) → led g 0 p ≢ Some f) (absent : led g 0 (d ++ n ∷ []) ≡ None)
    (new : b f ≡ Some o) (old : (i : ℕ) → i ≢ f → b i ≡ a i) where
  came_at : (q : Path) → places_by h b q ≡ put_at (d ++ n ∷ []) (Some o) (places_by g a) q
  came_at q = by (same_path (d ++ n ∷ []) q) refl
    where
      elsewhere : (v : Option ℕ) → led g 0 q ≡ v → option_and_then b v ≡ option_and_then a v
      elsewhere None e = refl
      elsewhere (Some i) e = old i (λ same. unreached q (e ∙ ap Some same))

      by : (t : Bool) → same_path (d ++ n ∷ []) q ≡ t → places_by h b q ≡ cond t (Some o) (places_by g a q)
      by true e =
          ap (places_by h b) (sym ((same_path-decides (d ++ n ∷ []) q).0 e))
          ∙ ap (option_and_then b) (made_is g h d k f n change once at object_state unreached absent) ∙ new
      by false e =
          let other : q ≢ d ++ n ∷ [] = λ same. (let yes : same_path (d ++ n ∷ []) q ≡ true = (same_path-decides (d ++ n ∷ []) q).1 (sym same) in let no : true ≡ false = sym yes ∙ e in cc) in
          ap (option_and_then b) (made_else g h d k f n change once at object_state unreached absent q other) ∙ elsewhere (led g 0 q) refl

  pub places_made : places_by h b ≡ put_at (d ++ n ∷ []) (Some o) (places_by g a)
  places_made = λ j q. came_at q j

-- ---- a child goes

module _ (g h : Edges) (a : Objects) (d : Path) (k : ℕ) (n : List ℕ) (change : IsSet k n None g h) (once : Once g) (at : led g 0 d ≡ Some k)
    (leaf : (m : List ℕ) (r : Path) → led g 0 ((d ++ n ∷ []) ++ m ∷ r) ≡ None) where
  went_at : (q : Path) → places_by h a q ≡ put_at (d ++ n ∷ []) None (places_by g a) q
  went_at q = by (same_path (d ++ n ∷ []) q) refl (is_prefix (d ++ n ∷ []) q) refl
    where
      below : same_path (d ++ n ∷ []) q ≡ false → (r : Path) → q ≡ (d ++ n ∷ []) ++ r → led g 0 q ≡ None
      below e [] is =
          let yes : same_path (d ++ n ∷ []) q ≡ true = (same_path-decides (d ++ n ∷ []) q).1 (sym (is ∙ append-nil (d ++ n ∷ []))) in
          let no : true ≡ false = sym yes ∙ e in cc
      below e (m ∷ r) is = ap (led g 0) is ∙ leaf m r

      by : (t : Bool) → same_path (d ++ n ∷ []) q ≡ t → (u : Bool) → is_prefix (d ++ n ∷ []) q ≡ u → places_by h a q ≡ cond t None (places_by g a q)
      by true e u x =
          let under : is_prefix (d ++ n ∷ []) q ≡ true = ap (is_prefix (d ++ n ∷ [])) (sym ((same_path-decides (d ++ n ∷ []) q).0 e)) ∙ is_prefix-refl (d ++ n ∷ []) in
          ap (option_and_then a) (gone_under g h d k n change once at q under)
      by false e false x = ap (option_and_then a) (gone_else g h d k n change once at q x)
      by false e true x =
          let parts = prefix_parts (d ++ n ∷ []) q x in
          ap (option_and_then a) (gone_under g h d k n change once at q x) ∙ sym (ap (option_and_then a) (below e parts.0 parts.1))

  pub places_gone : places_by h a ≡ put_at (d ++ n ∷ []) None (places_by g a)
  places_gone = λ j q. went_at q j

-- ---- a child moves

module _ (now : ℕ) (g e h : Edges) (a a1 a2 b : Objects) (d : Path) (k : ℕ) (n : List ℕ) (d' : Path) (k' : ℕ) (n' : List ℕ) (j : ℕ)
    (first : IsSet k n None g e) (second : IsSet k' n' (Some j) e h) (once : Once g) (at : led g 0 d ≡ Some k) (at' : led g 0 d' ≡ Some k')
    (child : g k n ≡ Some j) (outside : is_prefix (d ++ n ∷ []) (d' ++ n' ∷ []) ≡ false)
    (touch1 : IsChanged k' (modified now) a a1) (touch2 : IsChanged k (modified now) a1 a2) (renew : IsChanged j (changed now) a2 b) where
  -- a number under what moves is not touched
  untouched : (r : Path) (i : ℕ) → led g 0 ((d ++ n ∷ []) ++ r) ≡ Some i → a2 i ≡ a i
  untouched r i is =
      touch2.else i (λ same. no_longer d n r (once ((d ++ n ∷ []) ++ r) d k (is ∙ ap Some same) at))
      ∙ touch1.else i (λ same.
      let there : (d ++ n ∷ []) ++ r ≡ d' = once ((d ++ n ∷ []) ++ r) d' k' (is ∙ ap Some same) at' in
      let above : is_prefix ((d ++ n ∷ []) ++ r) (d' ++ n' ∷ []) ≡ true = ap (λ (p : Path). is_prefix p (d' ++ n' ∷ [])) there ∙ is_prefix-append d' (n' ∷ []) in
      let under : is_prefix (d ++ n ∷ []) (d' ++ n' ∷ []) ≡ true = is_prefix-trans (d ++ n ∷ []) ((d ++ n ∷ []) ++ r) (d' ++ n' ∷ []) (is_prefix-append (d ++ n ∷ []) r) above in
      (let no : true ≡ false = sym under ∙ outside in cc))

  at_child : led g 0 (d ++ n ∷ []) ≡ Some j
  at_child = led-on g 0 k d (n ∷ []) at ∙ ap (option_and_then (λ i. led g i [])) child

  arrived : (r : Path) → option_and_then b (led g 0 ((d ++ n ∷ []) ++ r)) ≡ carried now (d ++ n ∷ []) (places_by g a) r
  arrived [] =
      let here : led g 0 ((d ++ n ∷ []) ++ []) ≡ Some j = ap (led g 0) (append-nil (d ++ n ∷ [])) ∙ at_child in
      ap (option_and_then b) here ∙ renew.here ∙ ap (option_map (changed now)) (untouched [] j here)
      ∙ sym (ap (λ v. option_map (changed now) (option_and_then a v)) at_child)
  arrived (m ∷ r) = by (led g 0 ((d ++ n ∷ []) ++ m ∷ r)) refl
    where
      by : (v : Option ℕ) → led g 0 ((d ++ n ∷ []) ++ m ∷ r) ≡ v → option_and_then b v ≡ option_and_then a v
      by None is = refl
      by (Some i) is =
          renew.else i (λ same.
          let top : (d ++ n ∷ []) ++ m ∷ r ≡ d ++ n ∷ [] = once ((d ++ n ∷ []) ++ m ∷ r) (d ++ n ∷ []) j (is ∙ ap Some same) at_child in
          no_more (d ++ n ∷ []) m r top)
          ∙ untouched (m ∷ r) i is

  stayed : (q : Path) → is_prefix (d ++ n ∷ []) q ≡ false → (v : Option ℕ) → led g 0 q ≡ v → option_and_then b v ≡ option_and_then a2 v
  stayed q apart None is = refl
  stayed q apart (Some i) is = renew.else i (λ same.
      let top : q ≡ d ++ n ∷ [] = once q (d ++ n ∷ []) j (is ∙ ap Some same) at_child in
      let under : is_prefix (d ++ n ∷ []) q ≡ true = ap (is_prefix (d ++ n ∷ [])) top ∙ is_prefix-refl (d ++ n ∷ []) in
      (let no : true ≡ false = sym under ∙ apart in cc))

  both_touched : places_by g a2 ≡ touched now (d ++ n ∷ []) (touched now (d' ++ n' ∷ []) (places_by g a))
  both_touched =
      places_changed g a1 a2 k (modified now) d touch2 once at
      ∙ ap (on_at d (modified now)) (places_changed g a a1 k' (modified now) d' touch1 once at')
      ∙ ap (λ (p : Path). on_at p (modified now) (on_at d' (modified now) (places_by g a))) (sym (parent_of-push d n))
      ∙ ap (λ (p : Path). on_at (parent_of (d ++ n ∷ [])) (modified now) (on_at p (modified now) (places_by g a))) (sym (parent_of-push d' n'))

  moved_to : (q : Path) → places_by h b q ≡ moved now (d ++ n ∷ []) (d' ++ n' ∷ []) (places_by g a) q
  moved_to q = by (rest_under (d' ++ n' ∷ []) q) refl
    where
      outer : rest_under (d' ++ n' ∷ []) q ≡ None → (t : Bool) → is_prefix (d ++ n ∷ []) q ≡ t
          → places_by h b q ≡ cond t None (touched now (d ++ n ∷ []) (touched now (d' ++ n' ∷ []) (places_by g a)) q)
      outer other true x = ap (option_and_then b) (moved_none g e h d k n d' k' n' j first second once at at' child outside q (no_rest_no_prefix (d' ++ n' ∷ []) q other) x)
      outer other false x =
          ap (option_and_then b) (moved_else g e h d k n d' k' n' j first second once at at' child outside q (no_rest_no_prefix (d' ++ n' ∷ []) q other) x)
          ∙ stayed q x (led g 0 q) refl ∙ ap (λ (t : Places). t q) both_touched

      by : (v : Option Path) → rest_under (d' ++ n' ∷ []) q ≡ v → places_by h b q ≡ moved_at now (d ++ n ∷ []) (d' ++ n' ∷ []) (places_by g a) q v
      by (Some r) is =
          ap (places_by h b) (rest_under-Some (d' ++ n' ∷ []) q r is)
          ∙ ap (option_and_then b) (moved_under g e h d k n d' k' n' j first second once at at' child outside r) ∙ arrived r
      by None is = outer is (is_prefix (d ++ n ∷ []) q) refl

  pub places_moved : places_by h b ≡ moved now (d ++ n ∷ []) (d' ++ n' ∷ []) (places_by g a)
  places_moved = λ i q. moved_to q i
