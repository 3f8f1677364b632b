-- Laws of what is copied: the objects of a tree as those of a copy.
use Rattle.std.specs.Prelude.{◌⊎◌, ◌≡◌, ℕ, ◌≤◌, Bool, true, false, cond, List, [], ◌∷◌, ◌++◌, Option, Some, None, IfSome, is_some, option_map, unwrap_or, map, filter_map}
use Rattle.std.proofs.Common.{refl, sym, ap, subst, ◌∙◌, lit≤, append_assoc, inl, inr}
use Rattle.std.proofs.lemmas.List.{append-nil}
use Rattle.std.proofs.lemmas.Map.Keys.{IsDistinct-from_sorted}
use Rattle.std.specs.List.{cons_option}
use Rattle.std.specs.Ordering.{nat_cmp}
use Rattle.std.specs.Cmp.Lexicographic.{slice_cmp}
use Rattle.pv_path.specs.Paths.{Path, same_path, rest_under, has_staging}
use Rattle.pv_path.proofs.PathLaws.{has_staging-append, rest_under-append}
use Rattle.pv_steps.specs.declared.node.Kind.{Kind}
use Rattle.pv_steps.specs.declared.node.Kind.TheVariants.{Directory, File, Link, Fifo, CharDevice, BlockDevice}
use Rattle.pv_steps.specs.declared.node.Node.{Node}
use Rattle.pv_steps.specs.declared.object.Object.{Object}
use Rattle.pv_steps.specs.Objects.{PayloadFits, NumbersFit, IsObject, IsId, with_owner, with_mode}
use Rattle.pv_steps.specs.Trees.{Files, places, kind_of, names_below, node_at, payload_at, IsPresentIn, IsTree}
use Rattle.pv_steps.proofs.ObjectLaws.{IsObject-with_owner, IsObject-with_mode}
use Rattle.pv_steps.proofs.NameLaws.{names_below-rise, names_below-are}
use Rattle.pv_steps.proofs.StepLaws.{is_among, later_among}
use Rattle.pv_steps.proofs.TreeLaws.{present_above, directory_above}
use Rattle.pv_walk.specs.declared.object_state.ObjectState.{ObjectState}
use Rattle.pv_walk.specs.SettingMetadata.{IsMetadata}
use Rattle.pv_walk.specs.Nodes.{object_state_of, object_states_of, is_link}
use Rattle.pv_walk.specs.Operations as operations
use Rattle.pv_walk.proofs.EditLaws.{path_cases}
use Rattle.pv_walk.specs.declared.copying.TopNode.{TopNode}
use Rattle.pv_walk.specs.Copying.{IsTopNode, moded, topped, copy_from}
use Rattle.pv_walk.specs.Pieces.{what_of, plain, IsWhole, names_at}
use Rattle.pv_walk.specs.Staging.{HasTarget}
use Rattle.pv_walk.proofs.PlanLaws.{kind_in, IsSubtree}
use Rattle.pv_walk.proofs.PreparedLaws.{among_first, among_others}
use Rattle.pv_path.proofs.Tests.{first_false}

-- ---- payloads

-- what is not a file and no link has no bytes
no_bytes : (kind : Kind) (payload : List ℕ) → (kind ≡ File → ⊥) → (kind ≡ Link → ⊥) → PayloadFits kind payload → [] ≡ payload
no_bytes Directory payload f l h = sym h
no_bytes File payload f l h = absurd (f refl)
no_bytes Link payload f l h = absurd (l refl)
no_bytes Fifo payload f l h = sym h
no_bytes CharDevice payload f l h = sym h
no_bytes BlockDevice payload f l h = sym h

pub no_payload : (t : Files) (path : Path) (node : Node) → IsTree t → Some node ≡ node_at t path → (node.kind ≡ File → ⊥) → (node.kind ≡ Link → ⊥) → Some [] ≡ payload_at t path
no_payload t path node tree is file link = by (places t path) refl is
  where
    by : (o : Option Object) → places t path ≡ o → Some node ≡ option_map (λ (x : Object). x.node) o → Some [] ≡ option_map (λ (x : Object). x.payload) o
    by None e h = let no : Some node ≡ None = h in cc
    by (Some x) e h =
        let same : node ≡ x.node = (let both : Some node ≡ Some x.node = h in cc) in
        let kind : node.kind ≡ x.node.kind = ap (λ (n : Node). n.kind) same in
        ap Some (no_bytes x.node.kind x.payload (λ k. file (kind ∙ k)) (λ k. link (kind ∙ k)) (tree.objects path x e).payload)

-- ---- an object of a tree can be copied

-- what is first made of an object has all of its body
body_is : (kind : Kind) (b : ObjectState) → b.body.kind ≡ kind → PayloadFits kind b.body.payload → NumbersFit kind b.body.major b.body.minor → (plain b).body ≡ b.body
body_is kind b e p n = by kind e p n
  where
    other : (k : Kind) → b.body.kind ≡ k → (plain (record b { body = record b.body { kind = k } })).body ≡ record b.body { kind = k } → (plain b).body ≡ b.body
    other k e h = subst (λ (x : Kind). (plain (record b { body = record b.body { kind = x } })).body ≡ record b.body { kind = x }) (sym e) h

    by : (kind : Kind) → b.body.kind ≡ kind → PayloadFits kind b.body.payload → NumbersFit kind b.body.major b.body.minor → (plain b).body ≡ b.body
    by Directory e p n = other Directory e (λ i. record { kind = Directory; payload = sym p i; major = sym n.0 i; minor = sym n.1 i })
    by File e p n = other File e (λ i. record { kind = File; payload = b.body.payload; major = sym n.0 i; minor = sym n.1 i })
    by Link e p n = other Link e (λ i. record { kind = Link; payload = b.body.payload; major = sym n.0 i; minor = sym n.1 i })
    by Fifo e p n = other Fifo e (λ i. record { kind = Fifo; payload = sym p i; major = sym n.0 i; minor = sym n.1 i })
    by CharDevice e p n = other CharDevice e (λ i. record { kind = CharDevice; payload = sym p i; major = b.body.major; minor = b.body.minor })
    by BlockDevice e p n = other BlockDevice e (λ i. record { kind = BlockDevice; payload = sym p i; major = b.body.major; minor = b.body.minor })

target_is : (kind : Kind) (b : ObjectState) → b.body.kind ≡ kind → PayloadFits kind b.body.payload → HasTarget (what_of b.body)
target_is kind b e p = by kind e p
  where
    other : (k : Kind) → b.body.kind ≡ k → HasTarget (what_of (record b.body { kind = k })) → HasTarget (what_of b.body)
    other k e h = subst (λ (x : Kind). HasTarget (what_of (record b.body { kind = x }))) (sym e) h

    by : (kind : Kind) → b.body.kind ≡ kind → PayloadFits kind b.body.payload → HasTarget (what_of b.body)
    by Directory e p = other Directory e tt
    by File e p = other File e tt
    by Link e p = other Link e p
    by Fifo e p = other Fifo e tt
    by CharDevice e p = other CharDevice e tt
    by BlockDevice e p = other BlockDevice e tt

pub whole_object : (o : Object) → IsObject o → IsWhole (object_state_of o)
whole_object o is =
    let metadata : IsMetadata o.node.kind (object_state_of o).metadata = record { owner = is.owner; special = is.special; acl = is.acl; fits = is.kind_acl; attrs = is.attrs; letters = is.letters } in
    record {
      target = target_is o.node.kind (object_state_of o) refl is.payload;
      body = body_is o.node.kind (object_state_of o) refl is.payload is.numbers;
      metadata = metadata;
    }

-- ---- and with what the top gets

pub id_is : (id : Option ℕ) (old : ℕ) → IfSome id IsId → IsId old → IsId (unwrap_or id old)
id_is None old h g = g
id_is (Some x) old h g = h

module _ (top : TopNode) (fits : IsTopNode top) (o : Object) (is : IsObject o) where
  abbrev owned : Object
  owned = with_owner (unwrap_or top.uid o.node.uid) (unwrap_or top.gid o.node.gid) 0 o

  owned_is : IsObject owned
  owned_is = IsObject-with_owner 0 (lit≤ tt) (unwrap_or top.uid o.node.uid) (unwrap_or top.gid o.node.gid) o (id_is top.uid o.node.uid fits.uid is.owner.0) (id_is top.gid o.node.gid fits.gid is.owner.1) is

  pub whole_top : IsWhole (topped top (object_state_of o))
  whole_top = by top.mode fits.mode (is_link o.node.kind) refl
    where
      no_link : (kind : Kind) → is_link kind ≡ false → kind ≡ Link → ⊥
      no_link kind e s = let no : true ≡ false = sym (ap is_link s) ∙ e in cc

      by : (mode : Option ℕ) → IfSome mode (λ m. m ≤ 0o7777) → (link : Bool) → is_link o.node.kind ≡ link → IsWhole (moded mode (object_state_of owned))
      by None h link e = whole_object owned owned_is
      by (Some m) h true e = subst (λ (c : Bool). IsWhole (cond c (object_state_of owned) (record (object_state_of owned) { metadata = operations.with_mode o.node.kind m false (object_state_of owned).metadata }))) (sym e) (whole_object owned owned_is)
      by (Some m) h false e = subst (λ (c : Bool). IsWhole (cond c (object_state_of owned) (record (object_state_of owned) { metadata = operations.with_mode o.node.kind m false (object_state_of owned).metadata }))) (sym e)
          (whole_object (with_mode m 0 owned) (IsObject-with_mode 0 (lit≤ tt) m owned h (no_link o.node.kind e) owned_is))

top_kind : (top : TopNode) (b : ObjectState) → (topped top b).body.kind ≡ b.body.kind
top_kind top b = by top.mode (is_link b.body.kind)
  where
    either : (c : Bool) (x y : ObjectState) (kind : Kind) → x.body.kind ≡ kind → y.body.kind ≡ kind → (cond c x y).body.kind ≡ kind
    either true x y kind f g = f
    either false x y kind f g = g

    by : (mode : Option ℕ) → Bool → (moded mode (record b { metadata = record b.metadata { uid = unwrap_or top.uid b.metadata.uid; gid = unwrap_or top.gid b.metadata.gid } })).body.kind ≡ b.body.kind
    by None c = refl
    by (Some m) c = either (is_link b.body.kind) _ _ b.body.kind refl refl

-- ---- the subtree

some_object_state : (o : Option Object) → is_some (option_map object_state_of o) ≡ true → is_some o ≡ true
some_object_state None h = h
some_object_state (Some x) h = refl

-- what is copied is there
pub copied_stands : (top : ObjectState → ObjectState) (source : Path) (t : Files) (q : Path) → is_some (copy_from top source (object_states_of (places t)) q) ≡ true → is_some (places t (source ++ q)) ≡ true
copied_stands top source t [] h = ap (λ (p : Path). is_some (places t p)) (append-nil source) ∙ some_object_state (places t source) (some_top (object_states_of (places t) source) h)
  where
    some_top : (o : Option ObjectState) → is_some (option_map top o) ≡ true → is_some o ≡ true
    some_top None h = h
    some_top (Some x) h = refl
copied_stands top source t (n ∷ q) h = by (has_staging (n ∷ q)) h
  where
    by : (c : Bool) → is_some (cond c None (object_states_of (places t) (source ++ n ∷ q))) ≡ true → is_some (places t (source ++ n ∷ q)) ≡ true
    by true e = let no : false ≡ true = e in cc
    by false e = some_object_state (places t (source ++ n ∷ q)) e

-- what comes below the source is among those below the path to which it is copied
pub among_copied : (source path rest : Path) (paths : List Path) → is_among (source ++ rest) paths ≡ true → is_among (path ++ rest) (map (λ r. path ++ r) (filter_map (rest_under source) paths)) ≡ true
among_copied source path rest [] h = h
among_copied source path rest (k ∷ paths) h = by (among_copied source path rest paths) (rest_under source k) refl (path_cases k (source ++ rest)) h
  where
    by : (is_among (source ++ rest) paths ≡ true → is_among (path ++ rest) (map (λ r. path ++ r) (filter_map (rest_under source) paths)) ≡ true) → (o : Option Path) → rest_under source k ≡ o
        → (k ≡ source ++ rest) ⊎ (same_path k (source ++ rest) ≡ false) → is_among (source ++ rest) (k ∷ paths) ≡ true
        → is_among (path ++ rest) (map (λ r. path ++ r) (cons_option o (filter_map (rest_under source) paths))) ≡ true
    by more o e (inl same) g =
        let is : o ≡ Some rest = sym e ∙ ap (rest_under source) same ∙ rest_under-append source rest in
        subst (λ (v : Option Path). is_among (path ++ rest) (map (λ r. path ++ r) (cons_option v (filter_map (rest_under source) paths))) ≡ true) (sym is)
        (among_first (path ++ rest) (map (λ r. path ++ r) (filter_map (rest_under source) paths)))
    by more None e (inr other) g = more (among_others (source ++ rest) k paths other g)
    by more (Some r) e (inr other) g = later_among (path ++ r) (path ++ rest) (map (λ r. path ++ r) (filter_map (rest_under source) paths)) (more (among_others (source ++ rest) k paths other g))

module _ (top : TopNode) (fits : IsTopNode top) (source : Path) (t : Files) (tree : IsTree t) where
  -- no name below the top is a staging name
  visible : (q : Path) → is_some (copy_from (topped top) source (object_states_of (places t)) q) ≡ true → has_staging q ≡ false
  visible [] h = refl
  visible (n ∷ q) h = by (has_staging (n ∷ q)) h
    where
      by : (c : Bool) → is_some (cond c None (object_states_of (places t) (source ++ n ∷ q))) ≡ true → c ≡ false
      by true e = let no : false ≡ true = e in cc
      by false e = refl

  kind_object_state : (o : Option Object) → option_map (λ (b : ObjectState). b.body.kind) (option_map object_state_of o) ≡ kind_of o
  kind_object_state None = refl
  kind_object_state (Some x) = refl

  kind_top : (o : Option Object) → option_map (λ (b : ObjectState). b.body.kind) (option_map (topped top) (option_map object_state_of o)) ≡ kind_of o
  kind_top None = refl
  kind_top (Some x) = ap Some (top_kind top (object_state_of x))

  kind_copied : (q : Path) → has_staging q ≡ false → kind_in (copy_from (topped top) source (object_states_of (places t))) q ≡ kind_of (places t (source ++ q))
  kind_copied [] h = kind_top (places t source) ∙ ap (λ (p : Path). kind_of (places t p)) (sym (append-nil source))
  kind_copied (n ∷ q) h = ap (λ c. option_map (λ (b : ObjectState). b.body.kind) (cond c None (object_states_of (places t) (source ++ n ∷ q)))) h ∙ kind_object_state (places t (source ++ n ∷ q))

  deeper : (r : Path) (n : List ℕ) (x : Path) → is_some (copy_from (topped top) source (object_states_of (places t)) (r ++ n ∷ x)) ≡ true → IsPresentIn (places t) ((source ++ r) ++ n ∷ x)
  deeper r n x h = ap (λ (p : Path). is_some (places t p)) (append_assoc source r (n ∷ x)) ∙ copied_stands (topped top) source t (r ++ n ∷ x) h

  above_visible : (r : Path) (n : List ℕ) (x : Path) → is_some (copy_from (topped top) source (object_states_of (places t)) (r ++ n ∷ x)) ≡ true → has_staging r ≡ false
  above_visible r n x h = first_false (has_staging r) (has_staging (n ∷ x)) (sym (has_staging-append r (n ∷ x)) ∙ visible (r ++ n ∷ x) h)

  object_fits : (q : Path) (b : ObjectState) → copy_from (topped top) source (object_states_of (places t)) q ≡ Some b → IsWhole b
  object_fits [] b e = by (places t source) refl e
    where
      by : (o : Option Object) → places t source ≡ o → option_map (topped top) (option_map object_state_of o) ≡ Some b → IsWhole b
      by None there h = let no : None ≡ Some b = h in cc
      by (Some x) there h = let same : topped top (object_state_of x) ≡ b = (let both : Some (topped top (object_state_of x)) ≡ Some b = h in cc) in subst IsWhole same (whole_top top fits x (tree.objects source x there))
  object_fits (n ∷ q) b e = by (has_staging (n ∷ q)) (places t (source ++ n ∷ q)) refl e
    where
      by : (c : Bool) (o : Option Object) → places t (source ++ n ∷ q) ≡ o → cond c None (option_map object_state_of o) ≡ Some b → IsWhole b
      by true o there h = let no : None ≡ Some b = h in cc
      by false None there h = let no : None ≡ Some b = h in cc
      by false (Some x) there h = let same : object_state_of x ≡ b = (let both : Some (object_state_of x) ≡ Some b = h in cc) in subst IsWhole same (whole_object x (tree.objects (source ++ n ∷ q) x there))

  pub copied_subtree : IsSubtree (copy_from (topped top) source (object_states_of (places t))) (names_at source t)
  copied_subtree = record {
    closed = λ r n x h. kind_copied r (above_visible r n x h) ∙ directory_above (places t) tree (source ++ r) n x (deeper r n x h);
    fits = object_fits;
    covers = λ r n x h.
        names_below-are t (source ++ r) n
        ∙ present_above (places t) tree ((source ++ r) ++ n ∷ []) x (ap (λ (p : Path). is_some (places t p)) (append_assoc (source ++ r) (n ∷ []) x) ∙ deeper r n x h);
    distinct = λ r. IsDistinct-from_sorted (slice_cmp nat_cmp) (names_below t (source ++ r)) (names_below-rise t (source ++ r));
  }

-- the top of a copy of what is there
pub top_present : (top : TopNode) (source : Path) (t : Files) → is_some (places t source) ≡ true → is_some (copy_from (topped top) source (object_states_of (places t)) []) ≡ true
top_present top source t = by (places t source)
  where
    by : (o : Option Object) → is_some o ≡ true → is_some (option_map (topped top) (option_map object_state_of o)) ≡ true
    by None h = h
    by (Some x) h = refl
