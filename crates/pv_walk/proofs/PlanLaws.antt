-- Laws of lists of pieces of work: what they make, and which of them make a whole subtree.
use Rattle.std.specs.Prelude.{◌≡◌, ℕ, ◌<◌, Bool, true, false, cond, ◌||◌, ◌&&◌, List, [], ◌∷◌, ◌++◌, length, Option, Some, None, is_some, option_map}
use Rattle.std.proofs.Common.{zero, suc, refl, sym, ap, subst, ◌∙◌, inl, inr, ◌⊎◌, arith, append_assoc, length-append}
use Rattle.std.proofs.lemmas.List.{append-nil}
use Rattle.std.specs.List.{list_any, AllByRecursion, IsDistinct}
use Rattle.std.proofs.lemmas.Map.Keys.{IsDistinct-head, IsDistinct-tail}
use Rattle.std.specs.Ordering.{eq_by_cmp, is_eq, nat_cmp}
use Rattle.std.specs.Cmp.Lexicographic.{slice_cmp}
use Rattle.std.proofs.lemmas.Bool.{or_right, cases_Bool}
use Rattle.pv_walk.specs.declared.object_state.ObjectState.{ObjectState}
use Rattle.pv_walk.proofs.EditLaws.{path_cases}
use Rattle.pv_path.specs.Names.{same_bytes}
use Rattle.pv_path.specs.Paths.{Path, is_prefix, same_path}
use Rattle.pv_path.proofs.PathLaws.{same_bytes-refl, same_bytes-decides, same_path-refl, name_cmp-refl, name_cmp-exact, parent_of-push, is_prefix-append, is_prefix-refl, is_prefix-trans, prefix_parts}
use Rattle.pv_steps.specs.declared.node.Kind.{Kind}
use Rattle.pv_steps.specs.declared.node.Kind.TheVariants.{Directory}
use Rattle.pv_walk.specs.declared.listing.Piece.{Piece}
use Rattle.pv_walk.specs.declared.listing.Piece.TheVariants.{Make, Give}
use Rattle.pv_walk.specs.Pieces.{what_of, plain, after_piece, built, HasPlace, IsFilledBelow, IsWhole, IsDoable, AreDoable}
use Rattle.pv_path.proofs.Tests.{equal_of, true_not_false}

abbrev pub Subtree : Type 0
Subtree = Path → Option ObjectState

-- ---- one list after another

pub built-append : (xs ys : List Piece) (s : Subtree) → built (xs ++ ys) s ≡ built xs (built ys s)
built-append [] ys s = refl
built-append (x ∷ xs) ys s = ap (after_piece x) (built-append xs ys s)

pub doable-append : (subtree s : Subtree) (xs ys : List Piece) → AreDoable subtree s ys → AreDoable subtree (built ys s) xs → AreDoable subtree s (xs ++ ys)
doable-append subtree s [] ys h g = h
doable-append subtree s (x ∷ xs) ys h g = (doable-append subtree s xs ys h g.0, subst (λ (v : Subtree). IsDoable subtree v x) (sym (built-append xs ys s)) g.1)

-- the last of a list can be done first, and then the others
pub doable-last : (subtree s : Subtree) (xs : List Piece) (p : Piece) → AreDoable subtree s (xs ++ p ∷ []) → IsDoable subtree s p × AreDoable subtree (after_piece p s) xs
doable-last subtree s [] p h = (h.1, tt)
doable-last subtree s (x ∷ xs) p h =
    let rest = doable-last subtree s xs p h.0 in
    (rest.0, (rest.1, subst (λ (v : Subtree). IsDoable subtree v x) (built-append xs (p ∷ []) s) h.1))

-- ---- a region is filled

-- pieces that can be done, and that fill a region with a subtree
pub record Fills (subtree s : Subtree) (pieces : List Piece) (region : Path → Bool) : Type 0 where
  pub doable : AreDoable subtree s pieces
  pub fills : built pieces s ≡ (λ q. cond (region q) (subtree q) (s q))

-- the kind of the object at a place
abbrev pub kind_in : Subtree → Path → Option Kind
kind_in s q = option_map (λ (b : ObjectState). b.body.kind) (s q)

-- the directory at a place is as it is to be
pub record Ready (subtree s : Subtree) (r : Path) : Type 0 where
  pub top : is_some (s []) ≡ true
  pub here : kind_in s r ≡ kind_in subtree r

-- each of several lists after those behind it
abbrev pub each_below : (Path → List Piece) → Path → List (List ℕ) → List Piece
each_below f r [] = []
each_below f r (n ∷ ns) = each_below f r ns ++ f (r ++ n ∷ [])

-- whether a path lies at or below a child of these names
abbrev pub is_under_child : Path → List (List ℕ) → Path → Bool
is_under_child r ns q = list_any (λ n. is_prefix (r ++ n ∷ []) q) ns

-- whether a name is one of several
abbrev pub is_in : List ℕ → List (List ℕ) → Bool
is_in n ns = list_any (eq_by_cmp (slice_cmp nat_cmp) n) ns

pub none_any : (f : List ℕ → Bool) (ns : List (List ℕ)) → AllByRecursion (λ n. f n ≡ false) ns → list_any f ns ≡ false
none_any f [] h = refl
none_any f (n ∷ ns) h = ap (λ b. b || list_any f ns) h.0 ∙ none_any f ns h.1

itself : (n : List ℕ) → eq_by_cmp (slice_cmp nat_cmp) n n ≡ true
itself n = ap is_eq (name_cmp-refl n)

other_name : (n m : List ℕ) (ns : List (List ℕ)) → AllByRecursion (λ y. eq_by_cmp (slice_cmp nat_cmp) n y ≡ false) ns → is_in m ns ≡ true → n ≡ m → ⊥
other_name n m ns h among e = true_not_false (is_in n ns) (ap (λ x. is_in x ns) e ∙ among) (none_any (eq_by_cmp (slice_cmp nat_cmp) n) ns h)

-- names that the order finds equal are the same
tied : (n m : List ℕ) → eq_by_cmp (slice_cmp nat_cmp) n m ≡ true → n ≡ m
tied n m h = name_cmp-exact n m (equal_of (slice_cmp nat_cmp n m) h)

not_bytes : (n m : List ℕ) → (n ≡ m → ⊥) → same_bytes n m ≡ false
not_bytes n m d = elim (cases_Bool (same_bytes n m)) [ inl e ↦ absurd (d ((same_bytes-decides n m).0 e)) | inr e ↦ e ]

-- what lies below one child does not lie below another
pub child_apart : (r : Path) (n m : List ℕ) (x : Path) → (n ≡ m → ⊥) → is_prefix (r ++ n ∷ []) (r ++ m ∷ x) ≡ false
child_apart [] n m x d = ap (λ b. b && true) (not_bytes n m d)
child_apart (a ∷ r) n m x d = ap (λ b. b && is_prefix (r ++ n ∷ []) (r ++ m ∷ x)) (same_bytes-refl a) ∙ child_apart r n m x d

-- no place lies at or below a child of its own
pub no_child_above : (r : Path) (n : List ℕ) → is_prefix (r ++ n ∷ []) r ≡ false
no_child_above [] n = refl
no_child_above (a ∷ r) n = ap (λ b. b && is_prefix (r ++ n ∷ []) r) (same_bytes-refl a) ∙ no_child_above r n

no_child_root : (r : Path) (n : List ℕ) → is_prefix (r ++ n ∷ []) [] ≡ false
no_child_root [] n = refl
no_child_root (a ∷ r) n = refl

pub not_under_child : (r : Path) (ns : List (List ℕ)) (q : Path) → is_prefix r q ≡ false → is_under_child r ns q ≡ false
not_under_child r [] q h = refl
not_under_child r (n ∷ ns) q h =
    let here : is_prefix (r ++ n ∷ []) q ≡ false = elim (cases_Bool (is_prefix (r ++ n ∷ []) q)) [
      | inl e ↦ absurd (true_not_false (is_prefix r q) (is_prefix-trans r (r ++ n ∷ []) q (is_prefix-append r (n ∷ [])) e) h)
      | inr e ↦ e
    ] in
    ap (λ b. b || is_under_child r ns q) here ∙ not_under_child r ns q h

pub not_under_itself : (r : Path) (ns : List (List ℕ)) → is_under_child r ns r ≡ false
not_under_itself r [] = refl
not_under_itself r (n ∷ ns) = ap (λ b. b || is_under_child r ns r) (no_child_above r n) ∙ not_under_itself r ns

-- what lies below a child of these names
pub under_child : (r : Path) (ns : List (List ℕ)) (n : List ℕ) (x : Path) → is_in n ns ≡ true → is_under_child r ns (r ++ n ∷ x) ≡ true
under_child r [] n x h = let no : false ≡ true = h in cc
under_child r (m ∷ ns) n x h =
    elim (cases_Bool (same_bytes n m)) [
      | inl e ↦
          let same : n ≡ m = (same_bytes-decides n m).0 e in
          ap (λ b. b || is_under_child r ns (r ++ n ∷ x))
          (ap (λ k. is_prefix (r ++ k ∷ []) (r ++ n ∷ x)) (sym same) ∙ ap (is_prefix (r ++ n ∷ [])) (sym (append_assoc r (n ∷ []) x)) ∙ is_prefix-append (r ++ n ∷ []) x)
      | inr d ↦ or_right (is_prefix (r ++ m ∷ []) (r ++ n ∷ x)) (is_under_child r ns (r ++ n ∷ x)) (under_child r ns n x (behind d))
    ]
  where
    behind : same_bytes n m ≡ false → is_in n ns ≡ true
    behind d = elim (cases_Bool (eq_by_cmp (slice_cmp nat_cmp) n m)) [
      | inl e ↦ absurd (true_not_false (same_bytes n m) ((same_bytes-decides n m).1 (tied n m e)) d)
      | inr e ↦ sym (ap (λ b. b || is_in n ns) e) ∙ h
    ]

module _ (subtree : Subtree) (r : Path) (f : Path → List Piece)
    (one : (n : List ℕ) (s : Subtree) → Ready subtree s r → ((x : Path) → s (r ++ n ∷ x) ≡ None) → Fills subtree s (f (r ++ n ∷ [])) (is_prefix (r ++ n ∷ []))) where
  either : (a b : Bool) (x y : Option ObjectState) → cond b x (cond a x y) ≡ cond (a || b) x y
  either true true x y = refl
  either true false x y = refl
  either false b x y = refl

  -- the children of these names are filled one after the other
  pub each_fills : (ns : List (List ℕ)) (s : Subtree) → IsDistinct (eq_by_cmp (slice_cmp nat_cmp)) ns → Ready subtree s r
      → ((n : List ℕ) (x : Path) → is_in n ns ≡ true → s (r ++ n ∷ x) ≡ None) → Fills subtree s (each_below f r ns) (is_under_child r ns)
  each_fills [] s apart_names ready empty = record { doable = tt; fills = refl }
  each_fills (n ∷ ns) s apart_names ready empty =
      let first = one n s ready (λ x. empty n x (ap (λ b. b || is_in n ns) (itself n))) in
      let kept : (q : Path) → is_prefix (r ++ n ∷ []) q ≡ false → built (f (r ++ n ∷ [])) s q ≡ s q = λ q h. ap (λ (v : Subtree). v q) first.fills ∙ ap (λ b. cond b (subtree q) (s q)) h in
      let ready_next : Ready subtree (built (f (r ++ n ∷ [])) s) r = record {
        top = ap is_some (kept [] (no_child_root r n)) ∙ ready.top;
        here = ap (option_map (λ (b : ObjectState). b.body.kind)) (kept r (no_child_above r n)) ∙ ready.here;
      } in
      let next = each_fills ns (built (f (r ++ n ∷ [])) s) (IsDistinct-tail (eq_by_cmp (slice_cmp nat_cmp)) n ns apart_names) ready_next
      (λ m x among. kept (r ++ m ∷ x) (child_apart r n m x (other_name n m ns (IsDistinct-head (eq_by_cmp (slice_cmp nat_cmp)) n ns apart_names) among)) ∙ empty m x (or_right (eq_by_cmp (slice_cmp nat_cmp) m n) (is_in m ns) among)) in
      record {
        doable = doable-append subtree s (each_below f r ns) (f (r ++ n ∷ [])) first.doable next.doable;
        fills =
            built-append (each_below f r ns) (f (r ++ n ∷ [])) s ∙ next.fills
            ∙ (λ i q. (ap (λ v. cond (is_under_child r ns q) (subtree q) v) (ap (λ (v : Subtree). v q) first.fills)
            ∙ either (is_prefix (r ++ n ∷ []) q) (is_under_child r ns q) (subtree q) (s q)) i);
      }

-- ---- the pieces of a whole subtree

abbrev pub around : Path → List Piece → Option ObjectState → List Piece
around r inner None = []
around r inner (Some b) = Give r b.metadata ∷ (inner ++ Make r (what_of b.body) ∷ [])

-- those of what is at and below a place, as far down as a number of names
abbrev pub pieces_below : Subtree → (Path → List (List ℕ)) → ℕ → Path → List Piece
pieces_below subtree names zero r = []
pieces_below subtree names (suc k) r = around r (each_below (pieces_below subtree names k) r (names r)) (subtree r)

-- a subtree of objects that can be copied, each in a directory, with the names of all that stands in it
pub record IsSubtree (subtree : Subtree) (names : Path → List (List ℕ)) : Type 0 where
  pub closed : (r : Path) (n : List ℕ) (x : Path) → is_some (subtree (r ++ n ∷ x)) ≡ true → kind_in subtree r ≡ Some Directory
  pub fits : (r : Path) (b : ObjectState) → subtree r ≡ Some b → IsWhole b
  pub covers : (r : Path) (n : List ℕ) (x : Path) → is_some (subtree (r ++ n ∷ x)) ≡ true → is_in n (names r) ≡ true
  pub distinct : (r : Path) → IsDistinct (eq_by_cmp (slice_cmp nat_cmp)) (names r)

no_some : (o : Option ObjectState) → (is_some o ≡ true → ⊥) → o ≡ None
no_some None h = refl
no_some (Some b) h = absurd (h refl)

module _ (subtree : Subtree) (names : Path → List (List ℕ)) (is : IsSubtree subtree names) where
  abbrev nothing_below : Subtree → Path → Type 0
  nothing_below s r = (x : Path) → s (r ++ x) ≡ None

  -- nothing stands at and below a place of which the subtree has nothing
  absent_below : (r : Path) → subtree r ≡ None → (x : Path) → subtree (r ++ x) ≡ None
  absent_below r e [] = ap subtree (append-nil r) ∙ e
  absent_below r e (n ∷ x) = no_some (subtree (r ++ n ∷ x)) (λ some. (let no : None ≡ Some Directory = sym (ap (option_map (λ (b : ObjectState). b.body.kind)) e) ∙ is.closed r n x some in cc))

  -- so nothing has to be done there
  nothing_fills : (r : Path) (s : Subtree) → subtree r ≡ None → nothing_below s r → Fills subtree s [] (is_prefix r)
  nothing_fills r s e empty = record { doable = tt; fills = λ i q. at q (cases_Bool (is_prefix r q)) i }
    where
      at : (q : Path) → (is_prefix r q ≡ true) ⊎ (is_prefix r q ≡ false) → s q ≡ cond (is_prefix r q) (subtree q) (s q)
      at q (inl h) =
          let parts = prefix_parts r q h in
          let none : s q ≡ None = ap s parts.1 ∙ empty parts.0 in
          let there : subtree q ≡ None = ap subtree parts.1 ∙ absent_below r e parts.0 in
          none ∙ sym there ∙ ap (λ b. cond b (subtree q) (s q)) (sym h)
      at q (inr h) = ap (λ b. cond b (subtree q) (s q)) (sym h)

  -- ---- one object with all below it

  module _ (r : Path) (s : Subtree) (b : ObjectState) (there : subtree r ≡ Some b) (empty : nothing_below s r) (place : HasPlace s r) (inner : List Piece) where
    abbrev first : Subtree
    first = after_piece (Make r (what_of b.body)) s

    whole : IsWhole b
    whole = is.fits r b there

    here_empty : s r ≡ None
    here_empty = ap s (sym (append-nil r)) ∙ empty []

    first-here : first r ≡ Some (plain b)
    first-here = ap (λ c. cond c (Some (plain b)) (s r)) (same_path-refl r)

    first-else : (q : Path) → same_path r q ≡ false → first q ≡ s q
    first-else q d = ap (λ c. cond c (Some (plain b)) (s q)) d

    first-top : is_some (first []) ≡ true
    first-top = by place
      where
        some : (c : Bool) → is_some (s []) ≡ true → is_some (cond c (Some (plain b)) (s [])) ≡ true
        some true h = refl
        some false h = h

        by : HasPlace s r → is_some (first []) ≡ true
        by (inl root) = ap (λ c. is_some (cond c (Some (plain b)) (s []))) (ap (λ (p : Path). same_path p []) root)
        by (inr h) = some (same_path r []) h.0

    pub first_ready : Ready subtree first r
    first_ready = record {
      top = first-top;
      here = ap (option_map (λ (b : ObjectState). b.body.kind)) first-here ∙ ap (λ (v : _). Some v.kind) whole.body ∙ sym (ap (option_map (λ (b : ObjectState). b.body.kind)) there);
    }

    pub first_empty : (n : List ℕ) (x : Path) → first (r ++ n ∷ x) ≡ None
    first_empty n x = first-else (r ++ n ∷ x) (longer r) ∙ empty (n ∷ x)
      where
        longer : (p : Path) → same_path p (p ++ n ∷ x) ≡ false
        longer p = elim (path_cases p (p ++ n ∷ x)) [
          | inl e ↦ absurd (omega (arith, ap length {y = p ++ n ∷ x} e, length-append p (n ∷ x)))
          | inr d ↦ d
        ]

    abbrev pieces : List Piece
    pieces = Give r b.metadata ∷ (inner ++ Make r (what_of b.body) ∷ [])

    module _ (ns : List (List ℕ)) (covers : (n : List ℕ) (x : Path) → is_some (subtree (r ++ n ∷ x)) ≡ true → is_in n ns ≡ true) (fills : Fills subtree first inner (is_under_child r ns)) where
      built_first : built (inner ++ Make r (what_of b.body) ∷ []) s ≡ (λ q. cond (is_under_child r ns q) (subtree q) (first q))
      built_first = built-append inner (Make r (what_of b.body) ∷ []) s ∙ fills.fills

      built-here : built (inner ++ Make r (what_of b.body) ∷ []) s r ≡ Some (plain b)
      built-here = ap (λ (v : Subtree). v r) built_first ∙ ap (λ c. cond c (subtree r) (first r)) (not_under_itself r ns) ∙ first-here

      worn : Some (record (plain b) { metadata = b.metadata }) ≡ Some b
      worn = ap (λ (v : _). Some (record b { body = v })) whole.body

      below : (q : Path) → same_path r q ≡ false → (is_prefix r q ≡ true) ⊎ (is_prefix r q ≡ false) → cond (is_under_child r ns q) (subtree q) (first q) ≡ cond (is_prefix r q) (subtree q) (s q)
      below q d (inr h) = ap (λ c. cond c (subtree q) (first q)) (not_under_child r ns q h) ∙ first-else q d ∙ ap (λ c. cond c (subtree q) (s q)) (sym h)
      below q d (inl h) = by (prefix_parts r q h) ∙ ap (λ c. cond c (subtree q) (s q)) (sym h)
        where
          none_else : (c : Bool) → first q ≡ None → subtree q ≡ None → cond c (subtree q) (first q) ≡ subtree q
          none_else true f t = refl
          none_else false f t = f ∙ sym t

          at : (n : List ℕ) (x : Path) → q ≡ r ++ n ∷ x → (is_some (subtree q) ≡ true) ⊎ (is_some (subtree q) ≡ false) → cond (is_under_child r ns q) (subtree q) (first q) ≡ subtree q
          at n x e (inl some) =
              ap (λ c. cond c (subtree q) (first q)) (ap (is_under_child r ns) e ∙ under_child r ns n x (covers n x (subst (λ (p : Path). is_some (subtree p) ≡ true) e some)))
          at n x e (inr none) = none_else (is_under_child r ns q) (ap first e ∙ first_empty n x) (no_some (subtree q) (λ some. true_not_false (is_some (subtree q)) some none))

          by : ((x : Path) × (q ≡ r ++ x)) → cond (is_under_child r ns q) (subtree q) (first q) ≡ subtree q
          by ([], e) = absurd (true_not_false (same_path r q) (ap (same_path r) (e ∙ append-nil r) ∙ same_path-refl r) d)
          by (n ∷ x, e) = at n x e (cases_Bool (is_some (subtree q)))

      longer : (p : Path) (n : List ℕ) (x : Path) → same_path p (p ++ n ∷ x) ≡ false
      longer p n x = elim (path_cases p (p ++ n ∷ x)) [
        | inl e ↦ absurd (omega (arith, ap length {y = p ++ n ∷ x} e, length-append p (n ∷ x)))
        | inr d ↦ d
      ]

      -- before it gets its metadata all below it is there
      built-below : IsFilledBelow subtree (built (inner ++ Make r (what_of b.body) ∷ []) s) r
      built-below n x =
          let under = is_prefix-append r (n ∷ x) in
          ap (λ (v : Subtree). v (r ++ n ∷ x)) built_first ∙ below (r ++ n ∷ x) (longer r n x) (inl under)
          ∙ ap (λ c. cond c (subtree (r ++ n ∷ x)) (s (r ++ n ∷ x))) under

      at_all : (q : Path) → (r ≡ q) ⊎ (same_path r q ≡ false) → built pieces s q ≡ cond (is_prefix r q) (subtree q) (s q)
      at_all q (inl e) = subst (λ (p : Path). built pieces s p ≡ cond (is_prefix r p) (subtree p) (s p)) e
          (ap (λ c. cond c (option_map (λ (o : ObjectState). record o { metadata = b.metadata }) (built (inner ++ Make r (what_of b.body) ∷ []) s r)) (built (inner ++ Make r (what_of b.body) ∷ []) s r)) (same_path-refl r)
          ∙ ap (option_map (λ (o : ObjectState). record o { metadata = b.metadata })) built-here ∙ worn ∙ sym there
          ∙ ap (λ c. cond c (subtree r) (s r)) (sym (is_prefix-refl r)))
      at_all q (inr d) =
          ap (λ c. cond c (option_map (λ (o : ObjectState). record o { metadata = b.metadata }) (built (inner ++ Make r (what_of b.body) ∷ []) s q)) (built (inner ++ Make r (what_of b.body) ∷ []) s q)) d
          ∙ ap (λ (v : Subtree). v q) built_first ∙ below q d (cases_Bool (is_prefix r q))

      pub object_fills : Fills subtree s pieces (is_prefix r)
      object_fills = record {
        doable = (
          doable-append subtree s inner (Make r (what_of b.body) ∷ []) (tt, (b, (there, (whole, (refl, (here_empty, place)))))) fills.doable,
          (b, (there, (whole, (refl, (built-here, built-below))))),
        );
        fills = λ i q. at_all q (path_cases r q) i;
      }

  -- an object with all below it, where each child with all below it is filled
  some_fills : (r : Path) (s : Subtree) → nothing_below s r → (is_some (subtree r) ≡ true → HasPlace s r) → (f : Path → List Piece)
      → ((n : List ℕ) (v : Subtree) → Ready subtree v r → ((x : Path) → v (r ++ n ∷ x) ≡ None) → Fills subtree v (f (r ++ n ∷ [])) (is_prefix (r ++ n ∷ [])))
      → Fills subtree s (around r (each_below f r (names r)) (subtree r)) (is_prefix r)
  some_fills r s empty place f one = by (subtree r) refl
    where
      by : (o : Option ObjectState) → subtree r ≡ o → Fills subtree s (around r (each_below f r (names r)) o) (is_prefix r)
      by None e = nothing_fills r s e empty
      by (Some b) e =
          let here = place (ap is_some e) in
          object_fills r s b e empty here (each_below f r (names r)) (names r) (is.covers r)
          (each_fills subtree r f one (names r) (after_piece (Make r (what_of b.body)) s) (is.distinct r) (first_ready r s b e empty here (each_below f r (names r)))
          (λ n x among. first_empty r s b e empty here (each_below f r (names r)) n x))

  -- all at and below a place
  pub below_fills : (k : ℕ) (r : Path) (s : Subtree) → ((x : Path) → is_some (subtree (r ++ x)) ≡ true → length x < k) → nothing_below s r
      → (is_some (subtree r) ≡ true → HasPlace s r) → Fills subtree s (pieces_below subtree names k r) (is_prefix r)
  below_fills zero r s deep empty place =
      nothing_fills r s (no_some (subtree r) (λ some. (let no : length {A = List ℕ} [] < 0 = deep [] (ap (λ (p : Path). is_some (subtree p)) (append-nil r) ∙ some) in omega (arith, no)))) empty
  below_fills (suc k) r s deep empty place =
      some_fills r s empty place (pieces_below subtree names k)
      (λ n v ready none.
      below_fills k (r ++ n ∷ []) v
      (λ x some. (let short : suc (length x) < suc k = deep (n ∷ x) (ap (λ (p : Path). is_some (subtree p)) (sym (append_assoc r (n ∷ []) x)) ∙ some) in omega (arith, short)))
      (λ x. ap v (append_assoc r (n ∷ []) x) ∙ none x)
      (λ some. inr (ready.top, ap (kind_in v) (parent_of-push r n) ∙ ready.here ∙ is.closed r n [] some)))
