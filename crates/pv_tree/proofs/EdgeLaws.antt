-- Where paths lead after an edge is set, and after children come, go and move.
use Rattle.std.proofs.Common.{◌≡◌, ◌≢◌, ℕ, Bool, true, false, cond, eqb, ◌&&◌, ◌⊎◌, inl, inr, List, [], ◌∷◌, ◌++◌, Option, Some, None, refl, sym, ap, ◌∙◌, ◌≤◌, arith, length, length-append}
use Rattle.std.specs.Option.{option_and_then}
use Rattle.std.proofs.lemmas.Bool.{cases_eq}
use Rattle.std.proofs.lemmas.Bool.Decides.{Decides-eqb, eqb_tells}
use Rattle.std.proofs.lemmas.List.{append-nil, append_cancel_left}
use Rattle.pv_path.specs.Paths.{Path, is_prefix, same_path, same_path-decides}
use Rattle.pv_path.specs.Names.{same_bytes}
use Rattle.pv_path.proofs.PathLaws.{same_bytes-decides, same_bytes-refl, is_prefix-append, is_prefix-refl, prefix_parts, is_prefix-trans, length-prefix}
use Rattle.pv_tree.specs.Edges.{Edges, led, IsSet}

-- ---- along paths

pub led-append : (g : Edges) (i : ℕ) (p q : Path) → led g i (p ++ q) ≡ option_and_then (λ k. led g k q) (led g i p)
led-append g i [] q = refl
led-append g i (n ∷ p) q = elim (g i n) as (λ o. option_and_then (λ k. led g k (p ++ q)) o ≡ option_and_then (λ k. led g k q) (option_and_then (λ k. led g k p) o)) [
  | None ↦ refl
  | Some k ↦ led-append g k p q
]

-- two sets of edges have the same edges on the way of a path
abbrev pub Agree : Edges → Edges → ℕ → Path → Type 0
Agree g h i q = (p : Path) (n : List ℕ) (r : Path) (k : ℕ) → q ≡ p ++ n ∷ r → led g i p ≡ Some k → h k n ≡ g k n

pub led-agree : (g h : Edges) (i : ℕ) (q : Path) → Agree g h i q → led h i q ≡ led g i q
led-agree g h i [] agree = refl
led-agree g h i (n ∷ q) agree = by (g i n) refl (λ k. led-agree g h k q)
  where
    by : (o : Option ℕ) → g i n ≡ o → ((k : ℕ) → Agree g h k q → led h k q ≡ led g k q) → option_and_then (λ k. led h k q) (h i n) ≡ option_and_then (λ k. led g k q) (g i n)
    by None e rest = ap (option_and_then (λ k. led h k q)) (agree [] n q i refl refl ∙ e) ∙ sym (ap (option_and_then (λ k. led g k q)) e)
    by (Some k) e rest =
        ap (option_and_then (λ k. led h k q)) (agree [] n q i refl refl ∙ e)
        ∙ rest k (λ p m r j is at. agree (n ∷ p) m r j (ap (λ (s : Path). n ∷ s) is) (ap (option_and_then (λ k. led g k p)) e ∙ at))
        ∙ sym (ap (option_and_then (λ k. led g k q)) e)

-- no two paths from the root lead to one number
abbrev pub Once : Edges → Type 0
Once g = (p q : Path) (i : ℕ) → led g 0 p ≡ Some i → led g 0 q ≡ Some i → p ≡ q

-- a path leads on from where its beginning leads
pub led-on : (g : Edges) (i k : ℕ) (p q : Path) → led g i p ≡ Some k → led g i (p ++ q) ≡ led g k q
led-on g i k p q at = led-append g i p q ∙ ap (option_and_then (λ j. led g j q)) at

pub led-off : (g : Edges) (i : ℕ) (p q : Path) → led g i p ≡ None → led g i (p ++ q) ≡ None
led-off g i p q at = led-append g i p q ∙ ap (option_and_then (λ j. led g j q)) at

-- an edge is as given or as before
name_cases : (m n : List ℕ) → (m ≡ n) ⊎ (m ≢ n)
name_cases m n = by (same_bytes m n) refl
  where
    by : (b : Bool) → same_bytes m n ≡ b → (m ≡ n) ⊎ (m ≢ n)
    by true e = inl ((same_bytes-decides m n).0 e)
    by false e = inr (λ is. let yes : same_bytes m n ≡ true = (same_bytes-decides m n).1 is in cc)

pub edge_cases : (i k : ℕ) (m n : List ℕ) → ((i ≡ k) × (m ≡ n)) ⊎ ((i ≡ k) × (m ≡ n) → ⊥)
edge_cases i k m n = by (cases_eq i k) (name_cases m n)
  where
    by : (i ≡ k) ⊎ (i ≢ k) → (m ≡ n) ⊎ (m ≢ n) → ((i ≡ k) × (m ≡ n)) ⊎ ((i ≡ k) × (m ≡ n) → ⊥)
    by (inl a) (inl b) = inl (a, b)
    by (inl a) (inr b) = inr (λ x. b x.1)
    by (inr a) b = inr (λ x. a x.0)

-- one edge left out
abbrev pub without_edge : ℕ → List ℕ → Edges → Edges
without_edge k n g = λ i m. cond (eqb i k && same_bytes m n) None (g i m)

pub without_set : (k : ℕ) (n : List ℕ) (g : Edges) → IsSet k n None g (without_edge k n g)
without_set k n g = record {
  here = (let both : (eqb k k && same_bytes n n) ≡ true = one (eqb k k) (eqb_tells k k) in ap (λ b. cond b None (g k n)) both);
  else = λ i m other. ap (λ b. cond b None (g i m)) (two i m other (eqb i k) refl (same_bytes m n) refl);
}
  where
    one : (b : Bool) → ((b ≡ true) × (k ≡ k)) ⊎ ((b ≡ false) × (k ≢ k)) → (b && same_bytes n n) ≡ true
    one b (inl h) = ap (λ v. v && same_bytes n n) h.0 ∙ same_bytes-refl n
    one b (inr h) = absurd (h.1 refl)

    two : (i : ℕ) (m : List ℕ) → ((i ≡ k) × (m ≡ n) → ⊥) → (b : Bool) → eqb i k ≡ b → (c : Bool) → same_bytes m n ≡ c → (b && c) ≡ false
    two i m other false e c x = refl
    two i m other true e false x = refl
    two i m other true e true x = absurd (other ((Decides-eqb i k).0 e, (same_bytes-decides m n).0 x))

-- ---- an edge set at the end of a path

module _ (g h : Edges) (d : Path) (k : ℕ) (n : List ℕ) (to : Option ℕ) (change : IsSet k n to g h) where
  -- what does not pass the edge is as before
  pub off_edge : (i : ℕ) (q : Path) → ((p r : Path) → q ≡ p ++ n ∷ r → led g i p ≢ Some k) → led h i q ≡ led g i q
  off_edge i q apart = led-agree g h i q (λ p m r j is at. by p m r j is at (edge_cases j k m n))
    where
      by : (p : Path) (m : List ℕ) (r : Path) (j : ℕ) → q ≡ p ++ m ∷ r → led g i p ≡ Some j → ((j ≡ k) × (m ≡ n)) ⊎ ((j ≡ k) × (m ≡ n) → ⊥) → h j m ≡ g j m
      by p m r j is at (inl same) = absurd (apart p r (is ∙ ap (λ (s : List ℕ). p ++ s ∷ r) same.1) (at ∙ ap Some same.0))
      by p m r j is at (inr other) = change.else j m other

  module _ (once : Once g) (at : led g 0 d ≡ Some k) where
    -- what does not lie under the child is as before
    pub elsewhere : (q : Path) → is_prefix (d ++ n ∷ []) q ≡ false → led h 0 q ≡ led g 0 q
    elsewhere q other = off_edge 0 q (λ p r is there. let same : p ≡ d = once p d k there at in not_under p r is same)
      where
        not_under : (p r : Path) → q ≡ p ++ n ∷ r → p ≡ d → ⊥
        not_under p r is same =
            let under : is_prefix (d ++ n ∷ []) q ≡ true = ap (is_prefix (d ++ n ∷ [])) (is ∙ ap (λ (s : Path). s ++ n ∷ r) same ∙ onto d r) ∙ is_prefix-append (d ++ n ∷ []) r in
            (let no : true ≡ false = sym under ∙ other in cc)
          where
            onto : (d r : Path) → d ++ n ∷ r ≡ (d ++ n ∷ []) ++ r
            onto [] r = refl
            onto (m ∷ d) r = ap (λ (s : Path). m ∷ s) (onto d r)

    -- the directory itself does not
    pub directory_stays : led h 0 d ≡ Some k
    directory_stays = elsewhere d (by (is_prefix (d ++ n ∷ []) d) refl) ∙ at
      where
        by : (b : Bool) → is_prefix (d ++ n ∷ []) d ≡ b → is_prefix (d ++ n ∷ []) d ≡ false
        by false e = e
        by true e = absurd (longer (length-prefix (d ++ n ∷ []) d e))
          where
            longer : length (d ++ n ∷ []) ≤ length d → ⊥
            longer le = omega (arith, le, length-append d (n ∷ []))

    -- the child is where the edge leads
    pub child_is : led h 0 (d ++ n ∷ []) ≡ to
    child_is = led-on h 0 k d (n ∷ []) directory_stays ∙ end (h k n) ∙ change.here
      where
        end : (o : Option ℕ) → option_and_then (λ j. led h j []) o ≡ o
        end None = refl
        end (Some j) = refl

-- ---- a child comes

pub no_longer : (p : Path) (n : List ℕ) (r : Path) → (p ++ n ∷ []) ++ r ≢ p
no_longer p n r is = let le = ap length is in omega (arith, le, length-append (p ++ n ∷ []) r, length-append p (n ∷ []))

pub no_more : (p : Path) (n : List ℕ) (r : Path) → p ++ n ∷ r ≢ p
no_more p n r is = let le = ap length is in omega (arith, le, length-append p (n ∷ r))

pub path_cases : (p q : Path) → (p ≡ q) ⊎ (p ≢ q)
path_cases p q = by (same_path p q) refl
  where
    by : (b : Bool) → same_path p q ≡ b → (p ≡ q) ⊎ (p ≢ q)
    by true e = inl ((same_path-decides p q).0 e)
    by false e = inr (λ is. let yes : same_path p q ≡ true = (same_path-decides p q).1 is in cc)

module _ (g h : Edges) (d : Path) (k f : ℕ) (n : List ℕ) (change : IsSet k n (Some f) g h) (once : Once g) (at : led g 0 d ≡ Some k)
    (object_state : (m : List ℕ) → g f m ≡ None) (unreached : (p : Path) → led g 0 p ≢ Some f) (absent : led g 0 (d ++ n ∷ []) ≡ None) where
  pub made_is : led h 0 (d ++ n ∷ []) ≡ Some f
  made_is = child_is g h d k n (Some f) change once at

  still_object_state : (m : List ℕ) → h f m ≡ None
  still_object_state m = change.else f m (λ x. unreached d (at ∙ ap Some (sym x.0))) ∙ object_state m

  pub made_else : (q : Path) → q ≢ d ++ n ∷ [] → led h 0 q ≡ led g 0 q
  made_else q other = by (is_prefix (d ++ n ∷ []) q) refl
    where
      below : (r : Path) → q ≡ (d ++ n ∷ []) ++ r → led h 0 q ≡ led g 0 q
      below [] is = absurd (other (is ∙ append-nil (d ++ n ∷ [])))
      below (m ∷ r) is =
          ap (led h 0) is ∙ led-on h 0 f (d ++ n ∷ []) (m ∷ r) made_is ∙ ap (option_and_then (λ j. led h j r)) (still_object_state m)
          ∙ sym (ap (led g 0) is ∙ led-off g 0 (d ++ n ∷ []) (m ∷ r) absent)

      by : (b : Bool) → is_prefix (d ++ n ∷ []) q ≡ b → led h 0 q ≡ led g 0 q
      by false e = elsewhere g h d k n (Some f) change once at q e
      by true e = let parts = prefix_parts (d ++ n ∷ []) q e in below parts.0 parts.1

  pub made_once : Once h
  made_once p q i hp hq = by (path_cases p (d ++ n ∷ [])) (path_cases q (d ++ n ∷ []))
    where
      new : (s t : Path) → s ≡ d ++ n ∷ [] → t ≢ d ++ n ∷ [] → led h 0 s ≡ Some i → led h 0 t ≡ Some i → ⊥
      new s t is other a b = unreached t (sym (made_else t other) ∙ b ∙ sym a ∙ ap (led h 0) is ∙ made_is)

      by : (p ≡ d ++ n ∷ []) ⊎ (p ≢ d ++ n ∷ []) → (q ≡ d ++ n ∷ []) ⊎ (q ≢ d ++ n ∷ []) → p ≡ q
      by (inl a) (inl b) = a ∙ sym b
      by (inl a) (inr b) = absurd (new p q a b hp hq)
      by (inr a) (inl b) = absurd (new q p b a hq hp)
      by (inr a) (inr b) = once p q i (sym (made_else p a) ∙ hp) (sym (made_else q b) ∙ hq)

  -- what no path led to before, except for the child, none leads to now
  pub made_apart : (i : ℕ) → i ≢ f → ((p : Path) → led g 0 p ≢ Some i) → (q : Path) → led h 0 q ≢ Some i
  made_apart i other apart q is = by (path_cases q (d ++ n ∷ []))
    where
      by : (q ≡ d ++ n ∷ []) ⊎ (q ≢ d ++ n ∷ []) → ⊥
      by (inl a) = other (let same : Some i ≡ Some f = sym is ∙ ap (led h 0) a ∙ made_is in cc)
      by (inr a) = apart q (sym (made_else q a) ∙ is)

-- ---- a child goes

module _ (g h : Edges) (d : Path) (k : ℕ) (n : List ℕ) (change : IsSet k n None g h) (once : Once g) (at : led g 0 d ≡ Some k) where
  pub gone_under : (q : Path) → is_prefix (d ++ n ∷ []) q ≡ true → led h 0 q ≡ None
  gone_under q e =
      let parts = prefix_parts (d ++ n ∷ []) q e in
      ap (led h 0) parts.1 ∙ led-off h 0 (d ++ n ∷ []) parts.0 (child_is g h d k n None change once at)

  pub gone_else : (q : Path) → is_prefix (d ++ n ∷ []) q ≡ false → led h 0 q ≡ led g 0 q
  gone_else = elsewhere g h d k n None change once at

  pub gone_before : (q : Path) (i : ℕ) → led h 0 q ≡ Some i → led g 0 q ≡ Some i
  gone_before q i is = by (is_prefix (d ++ n ∷ []) q) refl
    where
      by : (b : Bool) → is_prefix (d ++ n ∷ []) q ≡ b → led g 0 q ≡ Some i
      by false e = sym (gone_else q e) ∙ is
      by true e = absurd (let no : None ≡ Some i = sym (gone_under q e) ∙ is in cc)

  pub gone_once : Once h
  gone_once p q i hp hq = once p q i (gone_before p i hp) (gone_before q i hq)

  -- no path leads to the child any more
  pub gone_apart : (f : ℕ) → led g 0 (d ++ n ∷ []) ≡ Some f → (q : Path) → led h 0 q ≢ Some f
  gone_apart f was q is =
      let same : d ++ n ∷ [] ≡ q = once (d ++ n ∷ []) q f was (gone_before q f is) in
      (let no : None ≡ Some f = sym (gone_under q (ap (is_prefix (d ++ n ∷ [])) (sym same) ∙ is_prefix-refl (d ++ n ∷ []))) ∙ is in cc)

-- ---- a child moves

module _ (g e h : Edges) (d : Path) (k : ℕ) (n : List ℕ) (d' : Path) (k' : ℕ) (n' : List ℕ) (j : ℕ)
    (first : IsSet k n None g e) (second : IsSet k' n' (Some j) e h) (once : Once g) (at : led g 0 d ≡ Some k) (at' : led g 0 d' ≡ Some k')
    (child : g k n ≡ Some j) (outside : is_prefix (d ++ n ∷ []) (d' ++ n' ∷ []) ≡ false) where
  -- the new directory does not lie in what moves
  apart_from : is_prefix (d ++ n ∷ []) d' ≡ true → ⊥
  apart_from under =
      (let no : true ≡ false = sym (is_prefix-trans (d ++ n ∷ []) d' (d' ++ n' ∷ []) under (is_prefix-append d' (n' ∷ []))) ∙ outside in cc)

  there : led g 0 (d ++ n ∷ []) ≡ Some j
  there = led-on g 0 k d (n ∷ []) at ∙ ap (option_and_then (λ i. led g i [])) child

  -- the same from the child on, in the old edges
  from_child : (r : Path) → led g 0 ((d ++ n ∷ []) ++ r) ≡ led g j r
  from_child r = led-on g 0 j (d ++ n ∷ []) r there

  once_less : Once e
  once_less = gone_once g e d k n first once at

  directory_less : led e 0 d' ≡ Some k'
  directory_less = by (is_prefix (d ++ n ∷ []) d') refl
    where
      by : (b : Bool) → is_prefix (d ++ n ∷ []) d' ≡ b → led e 0 d' ≡ Some k'
      by false x = gone_else g e d k n first once at d' x ∙ at'
      by true x = absurd (apart_from x)

  below_less : (r : Path) → led e j r ≡ led g j r
  below_less r = off_edge g e d k n None first j r (λ p s is to. no_longer d n p (once ((d ++ n ∷ []) ++ p) d k (from_child p ∙ to) at))

  below_moved : (r : Path) → led h j r ≡ led g j r
  below_moved r = off_edge e h d' k' n' (Some j) second j r (λ p s is to.
      let same : (d ++ n ∷ []) ++ p ≡ d' = once ((d ++ n ∷ []) ++ p) d' k' (from_child p ∙ sym (below_less p) ∙ to) at' in
      apart_from (ap (is_prefix (d ++ n ∷ [])) (sym same) ∙ is_prefix-append (d ++ n ∷ []) p)) ∙ below_less r

  -- what lies under the new place is what lay under the old one
  pub moved_under : (r : Path) → led h 0 ((d' ++ n' ∷ []) ++ r) ≡ led g 0 ((d ++ n ∷ []) ++ r)
  moved_under r = led-on h 0 j (d' ++ n' ∷ []) r (child_is e h d' k' n' (Some j) second once_less directory_less) ∙ below_moved r ∙ sym (from_child r)

  -- the new directory stays where it is
  pub moved_directory : led h 0 d' ≡ Some k'
  moved_directory = directory_stays e h d' k' n' (Some j) second once_less directory_less

  moved_less : (q : Path) → is_prefix (d' ++ n' ∷ []) q ≡ false → led h 0 q ≡ led e 0 q
  moved_less = elsewhere e h d' k' n' (Some j) second once_less directory_less

  -- nothing lies under the old one
  pub moved_none : (q : Path) → is_prefix (d' ++ n' ∷ []) q ≡ false → is_prefix (d ++ n ∷ []) q ≡ true → led h 0 q ≡ None
  moved_none q other under = moved_less q other ∙ gone_under g e d k n first once at q under

  -- all else is as before
  pub moved_else : (q : Path) → is_prefix (d' ++ n' ∷ []) q ≡ false → is_prefix (d ++ n ∷ []) q ≡ false → led h 0 q ≡ led g 0 q
  moved_else q other apart = moved_less q other ∙ gone_else g e d k n first once at q apart

  -- a number that is not under the new place is where it was, and not under the old one
  moved_before : (q : Path) (i : ℕ) → is_prefix (d' ++ n' ∷ []) q ≡ false → led h 0 q ≡ Some i → (led g 0 q ≡ Some i) × (is_prefix (d ++ n ∷ []) q ≡ true → ⊥)
  moved_before q i other is = (
    gone_before g e d k n first once at q i (sym (moved_less q other) ∙ is),
    λ under. (let no : None ≡ Some i = sym (moved_none q other under) ∙ is in cc),
  )

  pub moved_once : Once h
  moved_once p q i hp hq = by (is_prefix (d' ++ n' ∷ []) p) refl (is_prefix (d' ++ n' ∷ []) q) refl
    where
      mixed : (s t : Path) → is_prefix (d' ++ n' ∷ []) s ≡ true → is_prefix (d' ++ n' ∷ []) t ≡ false → led h 0 s ≡ Some i → led h 0 t ≡ Some i → ⊥
      mixed s t under other hs ht =
          let parts = prefix_parts (d' ++ n' ∷ []) s under in
          let before = moved_before t i other ht in
          let same : (d ++ n ∷ []) ++ parts.0 ≡ t = once ((d ++ n ∷ []) ++ parts.0) t i (sym (moved_under parts.0) ∙ ap (led h 0) (sym parts.1) ∙ hs) before.0 in
          before.1 (ap (is_prefix (d ++ n ∷ [])) (sym same) ∙ is_prefix-append (d ++ n ∷ []) parts.0)

      by : (b : Bool) → is_prefix (d' ++ n' ∷ []) p ≡ b → (c : Bool) → is_prefix (d' ++ n' ∷ []) q ≡ c → p ≡ q
      by true a true b =
          let ps = prefix_parts (d' ++ n' ∷ []) p a in
          let qs = prefix_parts (d' ++ n' ∷ []) q b in
          let same : ps.0 ≡ qs.0 = append_cancel_left (d ++ n ∷ []) ps.0 qs.0
          (once ((d ++ n ∷ []) ++ ps.0) ((d ++ n ∷ []) ++ qs.0) i (sym (moved_under ps.0) ∙ ap (led h 0) (sym ps.1) ∙ hp) (sym (moved_under qs.0) ∙ ap (led h 0) (sym qs.1) ∙ hq)) in
          ps.1 ∙ ap (λ (r : Path). (d' ++ n' ∷ []) ++ r) same ∙ sym qs.1
      by true a false b = absurd (mixed p q a b hp hq)
      by false a true b = absurd (mixed q p b a hq hp)
      by false a false b = once p q i (moved_before p i a hp).0 (moved_before q i b hq).0

  -- no path leads any more to what stood at the new place
  pub moved_apart : (f : ℕ) → led g 0 (d' ++ n' ∷ []) ≡ Some f → (q : Path) → led h 0 q ≢ Some f
  moved_apart f was q is = by (is_prefix (d' ++ n' ∷ []) q) refl
    where
      by : (b : Bool) → is_prefix (d' ++ n' ∷ []) q ≡ b → ⊥
      by true a =
          let qs = prefix_parts (d' ++ n' ∷ []) q a in
          let same : (d ++ n ∷ []) ++ qs.0 ≡ d' ++ n' ∷ [] = once ((d ++ n ∷ []) ++ qs.0) (d' ++ n' ∷ []) f (sym (moved_under qs.0) ∙ ap (led h 0) (sym qs.1) ∙ is) was in
          (let no : true ≡ false = sym (ap (is_prefix (d ++ n ∷ [])) (sym same) ∙ is_prefix-append (d ++ n ∷ []) qs.0) ∙ outside in cc)
      by false a =
          let same : d' ++ n' ∷ [] ≡ q = once (d' ++ n' ∷ []) q f was (moved_before q f a is).0 in
          (let no : true ≡ false = sym (ap (is_prefix (d' ++ n' ∷ [])) (sym same) ∙ is_prefix-refl (d' ++ n' ∷ [])) ∙ a in cc)

  -- what no path led to before, none leads to now
  pub moved_still : (f : ℕ) → ((p : Path) → led g 0 p ≢ Some f) → (q : Path) → led h 0 q ≢ Some f
  moved_still f apart q is = by (is_prefix (d' ++ n' ∷ []) q) refl
    where
      by : (b : Bool) → is_prefix (d' ++ n' ∷ []) q ≡ b → ⊥
      by true a = let qs = prefix_parts (d' ++ n' ∷ []) q a in apart ((d ++ n ∷ []) ++ qs.0) (sym (moved_under qs.0) ∙ ap (led h 0) (sym qs.1) ∙ is)
      by false a = apart q (moved_before q f a is).0
