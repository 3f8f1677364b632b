-- Laws of a list of what lies below a path, and of the removal that goes through it from its end.
use Rattle.std.specs.Prelude.{◌≡◌, ℕ, ◌+◌, ◌≤◌, ◌<◌, Bool, true, false, cond, ◌&&◌, List, [], ◌∷◌, ◌++◌, length, filter, is_some}
use Rattle.std.proofs.Common.{refl, sym, ap, subst, ◌∙◌, arith, inl, inr, ◌⊎◌, length-append, zero, suc}
use Rattle.std.specs.FinMap as fin
use Rattle.std.proofs.lemmas.Bool.{cases_Bool, and_parts, and_from}
use Rattle.pv_path.specs.Paths.{Path, same_path, parent_of}
use Rattle.pv_path.proofs.PathLaws.{same_path-refl, parent_parts, length-parent_of}
use Rattle.pv_steps.specs.declared.node.Kind.TheVariants.{Directory}
use Rattle.pv_steps.specs.Trees.{Files, places, IsTree, IsPresent}
use Rattle.pv_steps.proofs.TreeLaws.{present_of_kind}
use Rattle.pv_walk.specs.Removal.{is_below, count_below}
use Rattle.pv_walk.specs.Listing.{stands_below, ParentsFirst, IsListing}
use Rattle.pv_walk.specs.Listing.{times, is_child, children_of}
use Rattle.pv_walk.proofs.CountLaws.{times-append, times-push, times-filter, times-keys, times-children, length-times, same_or_not, is_child-push}
use Rattle.pv_walk.proofs.RemovalLaws.{zero_or_more, not_below_itself, below_parts, cond-true, below_nonempty, is_below-child, is_below-below, parent_of-child, is_below-parent_of}
use Rattle.pv_path.proofs.Tests.{true_not_false}

-- what has been listed, and the work that is left: the children of what was listed
pub record Listing (files : Files) (path : Path) (listed work : List Path) : Type 0 where
  pub members : (q : Path) → times q listed + times q work ≤ cond (stands_below files path q) 1 0
  pub parents : (q : Path) → 1 ≤ times q listed + times q work → (parent_of q ≡ path) ⊎ (1 ≤ times (parent_of q) listed)
  pub order : ParentsFirst files work (path ∷ listed)

pub cond-le : (b : Bool) → cond b 1 0 ≤ 1
cond-le true = omega arith
cond-le false = omega arith

pub cond-one : (b : Bool) → b ≡ true → ◌≡◌ {A = ℕ} (cond b 1 0) 1
cond-one b e = ap (λ c. cond c 1 0) e

pub cond-zero : (b : Bool) → b ≡ false → ◌≡◌ {A = ℕ} (cond b 1 0) 0
cond-zero b e = ap (λ c. cond c 1 0) e

-- ---- how a listing grows

module _ (files : Files) (path : Path) where
  child_stands : (p q : Path) → (p ≡ path) ⊎ (is_below path p ≡ true) → (is_child p q && is_some (places files q)) ≡ true → stands_below files path q ≡ true
  child_stands p q where_p h =
      let parts = and_parts (is_child p q) (is_some (places files q)) h in
      let under = is_below-child p q parts.0 in
      and_from (is_below path q) (is_some (places files q))
      (elim where_p [ inl e ↦ subst (λ s. is_below s q ≡ true) e under | inr b ↦ is_below-below path p q b under ])
      parts.1

  children_within : (p q : Path) → (p ≡ path) ⊎ (is_below path p ≡ true) → times q (children_of files p) ≤ cond (stands_below files path q) 1 0
  children_within p q where_p =
      let is = times-children files p q in
      elim (cases_Bool (is_child p q && is_some (places files q))) [
        | inl e ↦ omega (arith, is, cond-one (is_child p q && is_some (places files q)) e, cond-one (stands_below files path q) (child_stands p q where_p e))
        | inr d ↦ omega (arith, is, cond-zero (is_child p q && is_some (places files q)) d)
      ]

  a_child : (p q : Path) → 1 ≤ times q (children_of files p) → is_child p q ≡ true
  a_child p q h = (and_parts (is_child p q) (is_some (places files q)) (cond-true (is_child p q && is_some (places files q)) (subst (λ n. 1 ≤ n) (times-children files p q) h))).0

  pub child_counts : (p q : Path) → is_child p q ≡ true → IsPresent files q → times q (children_of files p) ≡ 1
  child_counts p q c present = times-children files p q ∙ cond-one (is_child p q && is_some (places files q)) (and_from (is_child p q) (is_some (places files q)) c present)

  -- in the beginning the children of the path are the work
  pub listing_start : Listing files path [] (children_of files path)
  listing_start = record {
    members = λ q. omega (arith, children_within path q (inl refl));
    parents = λ q h. inl (parent_of-child path q (a_child path q (omega arith)));
    order = ((λ q c present. omega (arith, child_counts path q c present)), tt);
  }

  order_push : (work : List Path) (p : Path) (ps : List Path) → ParentsFirst files (work ++ p ∷ []) ps → ParentsFirst files (work ++ children_of files p) (ps ++ p ∷ [])
  order_push work p [] h = ((λ q c present. omega (arith, child_counts p q c present, times-append q work (children_of files p))), tt)
  order_push work p (r ∷ ps) h =
      ((λ q c present. omega (arith, h.0 q c present, times-push q ps p, times-push q work p, times-append q work (children_of files p))), order_push work p ps h.1)

  -- then one path of the work is listed, and its children are work
  pub listing_next : (listed work : List Path) (p : Path) → Listing files path listed (work ++ p ∷ []) → Listing files path (listed ++ p ∷ []) (work ++ children_of files p)
  listing_next listed work p l =
      let one : ◌≡◌ {A = ℕ} (cond (same_path p p) 1 0) 1 = ap (λ b. cond b 1 0) (same_path-refl p) in
      let counts = times-push p work p in
      let stands : stands_below files path p ≡ true = cond-true (stands_below files path p) (omega (arith, l.members p, counts, one)) in
      let below : is_below path p ≡ true = (and_parts (is_below path p) (is_some (places files p)) stands).0 in
      let new : times p listed ≡ 0 = omega (arith, l.members p, counts, one, cond-le (stands_below files path p)) in
      let fresh : (q : Path) → 1 ≤ times q (children_of files p) → times q listed + times q (work ++ p ∷ []) ≡ 0 =
      λ q c. elim (zero_or_more (times q listed + times q (work ++ p ∷ []))) [
        | inl z ↦ z
        | inr m ↦ elim (l.parents q m) [
          | inl e ↦ absurd (true_not_false (is_below path path) (subst (λ s. is_below path s ≡ true) (sym (parent_of-child p q (a_child p q c)) ∙ e) below) (not_below_itself path))
          | inr g ↦ let here : 1 ≤ times p listed = subst (λ s. 1 ≤ times s listed) (parent_of-child p q (a_child p q c)) g in absurd (omega arith)
        ]
      ] in
      record {
        members = λ q. elim (zero_or_more (times q (children_of files p))) [
          | inl z ↦ omega (arith, z, l.members q, times-push q listed p, times-push q work p, times-append q work (children_of files p))
          | inr c ↦ omega (arith, fresh q c, children_within p q (inr below), times-push q listed p, times-push q work p, times-append q work (children_of files p))
        ];
        parents = λ q h. elim (zero_or_more (times q (children_of files p))) [
          | inl z ↦ elim (l.parents q (omega (arith, z, h, times-push q listed p, times-push q work p, times-append q work (children_of files p)))) [
            | inl e ↦ inl e
            | inr g ↦ inr (omega (arith, g, times-push (parent_of q) listed p))
          ]
          | inr c ↦ inr (subst (λ s. 1 ≤ times s (listed ++ p ∷ [])) (sym (parent_of-child p q (a_child p q c))) (omega (arith, times-push p listed p, one)))
        ];
        order = order_push work p (path ∷ listed) l.order;
      }

  and_le : (a b : Bool) → cond (a && b) 1 0 ≤ cond b 1 0
  and_le true b = omega arith
  and_le false b = omega arith

  -- there are fewer paths listed than the tree has, as long as work is left
  pub listing_room : (listed work : List Path) (p : Path) → Listing files path listed (work ++ p ∷ []) → length listed < length (fin.keys files)
  listing_room listed work p l =
      let within = length-times (listed ++ p ∷ []) (fin.keys files) (λ q. omega (arith, l.members q, times-push q listed p, times-push q work p, times-keys files q, and_le (is_below path q) (is_some (places files q)))) in
      omega (arith, within, length-append listed (p ∷ []))

  order_child : (ps : List Path) (p q : Path) → ParentsFirst files [] ps → 1 ≤ times p ps → is_child p q ≡ true → IsPresent files q → 1 ≤ times q ps
  order_child [] p q h g c present = absurd (omega arith)
  order_child (r ∷ ps) p q h g c present = elim (same_or_not r p) [
    | inl s ↦ let here : 1 ≤ times q ps + 0 = h.0 q (subst (λ s. is_child s q ≡ true) (sym s.0) c) present in omega arith
    | inr d ↦ let rest : 1 ≤ 0 + times p ps = subst (λ b. 1 ≤ cond b 1 0 + times p ps) d g in omega (arith, order_child ps p q h.1 (omega arith) c present)
  ]

  length_below : (q : Path) → is_below path q ≡ true → length path < length q
  length_below q h = let parts = below_parts path q h in omega (arith, ap length parts.2, length-append path (parts.0 ∷ parts.1))

  module _ (tree : IsTree files) (listed : List Path) (l : Listing files path listed []) where
    complete : (k : ℕ) (q : Path) → length q ≤ length path + k → is_below path q ≡ true → IsPresent files q → 1 ≤ times q listed
    complete zero q short h present = absurd (omega (arith, length_below q h))
    complete (suc k) q short h present =
        let nonempty = below_nonempty path q h in
        let parts = parent_parts q nonempty in
        let child : is_child (parent_of q) q ≡ true = subst (λ s. is_child (parent_of q) s ≡ true) (sym parts.1) (is_child-push (parent_of q) parts.0) in
        elim (same_or_not path (parent_of q)) [
          | inl s ↦ omega (arith, l.order.0 q (subst (λ s. is_child s q ≡ true) (sym s.0) child) present)
          | inr d ↦
              let above = complete k (parent_of q) (omega (arith, length-parent_of q)) (is_below-parent_of path q h d) (present_of_kind (places files) (parent_of q) Directory (tree.parents q present nonempty)) in
              order_child listed (parent_of q) q l.order.1 above child present
        ]

    -- when no work is left, all is listed
    pub listing_end : IsListing files path listed
    listing_end = record {
      once = λ q. elim (cases_Bool (stands_below files path q)) [
        | inl e ↦
            let parts = and_parts (is_below path q) (is_some (places files q)) e in
            let some = complete (length q) q (omega arith) parts.0 parts.1 in
            omega (arith, some, l.members q, cond-one (stands_below files path q) e)
        | inr d ↦ omega (arith, l.members q, cond-zero (stands_below files path q) d)
      ];
      order = l.order.1;
    }

  and_cond : (a b : Bool) → ◌≡◌ {A = ℕ} (cond a (cond b 1 0) 0) (cond (a && b) 1 0)
  and_cond true b = refl
  and_cond false b = refl

  pub times-below : (q : Path) → times q (filter (is_below path) (fin.keys files)) ≡ cond (stands_below files path q) 1 0
  times-below q =
      times-filter (is_below path) q (fin.keys files)
      ∙ ap (λ n. cond (is_below path q) n 0) (times-keys files q)
      ∙ and_cond (is_below path q) (is_some (places files q))

  -- a listing has as many paths as there are objects below
  pub listing_count : (listed : List Path) → IsListing files path listed → length listed ≤ count_below files path
  listing_count listed l = length-times listed (filter (is_below path) (fin.keys files)) (λ q. omega (arith, l.once q, times-below q))
