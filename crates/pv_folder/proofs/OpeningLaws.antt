-- A folder is refused for one reason, and not where it is opened; and what is kept in a folder is opened again as it was.
use Rattle.std.proofs.Common.{◌≡◌, ◌≢◌, ◌∙◌, Bool, true, false, cond, T, List, [], ◌∷◌, ◌++◌, Option, Some, None, IfSome, is_some, option_map, Result, Ok, Err, ◌⊎◌, inl, inr, refl, sym, ap, subst, ℕ}
use Rattle.std.specs.Prelude.{IsErrAnd}
use Rattle.std.specs.List.{cons_option}
use Rattle.std.specs.Option.{option_and_then}
use Rattle.std.specs.Ordering.{eq_by_cmp, is_eq, is_lt}
use Rattle.std.specs.FinMap as fin
use Rattle.std.specs.FinMap.Entries.{below_all, find, is_sorted}
use Rattle.pv_path.specs.Paths.{Path, parent_of, path_cmp, path_exact, path_total}
use Rattle.pv_path.proofs.PathLaws.{tied-equal}
use Rattle.pv_path.proofs.Tests.{each_T, less_of-T}
use Rattle.pv_steps.specs.declared.node.Kind.{Kind}
use Rattle.pv_steps.specs.declared.node.Kind.TheVariants as node
use Rattle.pv_steps.specs.declared.object.Object.{Object}
use Rattle.pv_steps.specs.Objects.{PayloadFits, fresh}
use Rattle.pv_steps.specs.Trees.{Files, IsTree, kind_of, places}
use Rattle.pv_walk.specs.Nodes.{same_kind}
use Rattle.pv_text.specs.Facts.{Values}
use Rattle.pv_image.specs.declared.image_fault.ImageFault.{ImageFault}
use Rattle.pv_image.specs.declared.image_fault.ImageFault.TheVariants as image_fault
use Rattle.pv_image.specs.Emptied.{emptied, emptied_payload, with_empty_files}
use Rattle.pv_image.specs.Images.{HasImageFault, IsImage}
use Rattle.pv_image.proofs.EmptyLaws.{kind_of-emptied, places-emptied}
use Rattle.pv_image.proofs.ImageLaws.{image_sound, one_fault}
use Rattle.pv_folder.specs.Content.{Content, HostObject, bytes_of, held}
use Rattle.pv_folder.specs.Content as host
use Rattle.pv_folder.specs.declared.open_fault.OpenFault.{OpenFault}
use Rattle.pv_folder.specs.declared.open_fault.OpenFault.TheVariants.{BadManifest, HostFailed, Memory}
use Rattle.pv_folder.specs.Folders.{Agrees, IsPrepared, manifest_path, object_of, objects_in, real_as, real_in, real_of, tree_path}
use Rattle.pv_folder.specs.Merge.{is_real_kind, merged, merged_of, plain}
use Rattle.pv_folder.specs.Opening.{IsOpened, IsRefused, Says, absent, bad_manifest, fault_among, is_outer, not_prepared, objects_below, of_image, present, real}
use Rattle.pv_folder.proofs.GoingLaws.{Faulty, from_content, told_both}
use Rattle.pv_folder.proofs.FolderLaws.{objects_found, objects_sorted}
use Rattle.pv_folder.proofs.MergeLaws.{places-merged}
use Rattle.pv_folder.proofs.ReadingLaws.{real_below, real_entries}

-- ---- one reason

module _ (folder : Path) (c : Content) where
  file_same : (a b : List ℕ) → held c (manifest_path folder) ≡ Some (host.File a) → held c (manifest_path folder) ≡ Some (host.File b) → a ≡ b
  file_same a b x y = let same : Some (host.File a) ≡ Some (host.File b) = sym x ∙ y in cc

  -- what says something has no fault
  says_well : (facts : Values) (files : Files) (bytes : List ℕ) (f : ImageFault) → Says folder c facts files → held c (manifest_path folder) ≡ Some (host.File bytes) → HasImageFault bytes f → ⊥
  says_well facts files bytes f (absent none a b) at fault = let no : None ≡ Some (host.File bytes) = sym none ∙ at in cc
  says_well facts files bytes f (present b is image) at fault =
      image_sound bytes facts files f (subst (λ (t : List ℕ). IsImage t facts files) (file_same b bytes is at) image) fault

  fault_same : (f g : OpenFault) → fault_among 0 0 (objects_below folder c) ≡ Some f → fault_among 0 0 (objects_below folder c) ≡ Some g → f ≡ g
  fault_same f g x y = let same : Some f ≡ Some g = sym x ∙ y in cc

  pub one_reason : (f g : OpenFault) → IsRefused folder c f → IsRefused folder c g → f ≡ g
  one_reason f g (not_prepared never) (not_prepared other) = refl
  one_reason f g (not_prepared never) (bad_manifest b h p at fault) = absurd (never p)
  one_reason f g (not_prepared never) (real facts files e p says fault) = absurd (never p)
  one_reason f g (bad_manifest b h p at fault) (not_prepared never) = absurd (never p)
  one_reason f g (bad_manifest b h p at fault) (bad_manifest d k q is other) =
      ap BadManifest (one_fault 1 _ d h k (subst (λ (t : List ℕ). HasImageFault t h) (file_same b d at is) fault) other)
  one_reason f g (bad_manifest b h p at fault) (real facts files e q says other) = absurd (says_well facts files b h says at fault)
  one_reason f g (real facts files e p says fault) (not_prepared never) = absurd (never p)
  one_reason f g (real facts files e p says fault) (bad_manifest b h q at other) = absurd (says_well facts files b h says at other)
  one_reason f g (real facts files e p says fault) (real more others k q is other) = fault_same e k fault other

  pub not_both : (facts : Values) (tree : Files) (f : OpenFault) → IsOpened folder c facts tree → IsRefused folder c f → ⊥
  not_both facts tree f o (not_prepared never) = never o.prepared
  not_both facts tree f o (bad_manifest b h p at fault) = says_well facts o.manifest b h o.says at fault
  not_both facts tree f o (real more others e p says fault) = let no : None ≡ Some e = sym o.sound ∙ fault in cc

-- ---- what is told of a folder

file_at : (o : Option HostObject) (bytes : List ℕ) → Some bytes ≡ bytes_of o → o ≡ Some (host.File bytes)
file_at None bytes e = cc
file_at (Some host.Directory) bytes e = cc
file_at (Some (host.File b)) bytes e = let same : Some bytes ≡ Some b = e in cc
file_at (Some host.Other) bytes e = cc

own_fault : (f : ImageFault) → is_outer (of_image f) ≡ false → (of_image f ≡ BadManifest f) × (f ≢ image_fault.Memory)
own_fault image_fault.Memory e = cc
own_fault f e = (refl, λ m. cc)

outer_fault : (f : OpenFault) → is_outer f ≡ true → (f ≡ HostFailed) ⊎ (f ≡ Memory)
outer_fault HostFailed e = inl refl
outer_fault Memory e = inr refl
outer_fault f e = cc

always : (Q : Content → Type 0) (content : Option Content) → ((c : Content) → Q c) → IfSome content Q
always Q None h = tt
always Q (Some c) h = h c

module _ (content : Option Content) (folder : Path) where
  -- the bytes of a manifest are no image
  pub manifest_bad : (bytes : List ℕ) (f : ImageFault) → IfSome content (λ c. IsPrepared folder (held c))
      → IfSome content (λ c. Some bytes ≡ bytes_of (held c (manifest_path folder))) → (f ≢ image_fault.Memory → HasImageFault bytes f)
      → is_outer (of_image f) ≡ false → IfSome content (λ c. IsRefused folder c (of_image f))
  manifest_bad bytes f prepared at has own =
      let is = own_fault f own in
      told_both (λ c. IsPrepared folder (held c)) (λ c. Some bytes ≡ bytes_of (held c (manifest_path folder))) (λ c. IsRefused folder c (of_image f)) content
      (λ c p h. subst (IsRefused folder c) (sym is.0) (bad_manifest bytes f p (file_at (held c (manifest_path folder)) bytes h) (has is.1))) prepared at

  -- or they are one
  pub manifest_says : (bytes : List ℕ) (facts : Values) (files : Files) → IfSome content (λ c. Some bytes ≡ bytes_of (held c (manifest_path folder)))
      → IsImage bytes facts files → IfSome content (λ c. Says folder c facts files)
  manifest_says bytes facts files at image =
      from_content (λ c. Some bytes ≡ bytes_of (held c (manifest_path folder))) (λ c. Says folder c facts files) content
      (λ c h. present bytes (file_at (held c (manifest_path folder)) bytes h) image) at

  -- a fault of what is real, which is looked at after that
  pub real_refused : (facts : Values) (files : Files) (f : OpenFault) (after : Option Content) → after ≡ content
      → IfSome content (λ c. IsPrepared folder (held c)) → IfSome content (λ c. Says folder c facts files)
      → (is_outer f ≡ false → IfSome after (Faulty folder f)) → is_outer f ≡ false → IfSome content (λ c. IsRefused folder c f)
  real_refused facts files f after kept prepared says fault own =
      told_both (λ c. IsPrepared folder (held c) × Says folder c facts files) (Faulty folder f) (λ c. IsRefused folder c f) content
      (λ c h e. real facts files f h.0 h.1 e)
      (told_both (λ c. IsPrepared folder (held c)) (λ c. Says folder c facts files) (λ c. IsPrepared folder (held c) × Says folder c facts files) content (λ c p h. (p, h)) prepared says)
      (subst (λ (o : Option Content). IfSome o (Faulty folder f)) kept (fault own))

  -- a fault that is answered is the reason, or is of the host or of memory
  pub only_reason : {A : Type 0} (r : Result A OpenFault) (f g : OpenFault) → IsErrAnd r (λ e. e ≡ f) → (is_outer f ≡ false → IfSome content (λ c. IsRefused folder c f))
      → IfSome content (λ c. IsRefused folder c g → (r ≡ Err g) ⊎ (r ≡ Err HostFailed) ⊎ (r ≡ Err Memory))
  only_reason {A} (Ok x) f g h why = absurd h
  only_reason {A} (Err e) f g h why = by (is_outer f) refl
    where
      outer : (f ≡ HostFailed) ⊎ (f ≡ Memory) → (◌≡◌ {A = Result A OpenFault} (Err e) (Err g)) ⊎ (◌≡◌ {A = Result A OpenFault} (Err e) (Err HostFailed)) ⊎ (◌≡◌ {A = Result A OpenFault} (Err e) (Err Memory))
      outer (inl is) = inr (inl (ap Err (h ∙ is)))
      outer (inr is) = inr (inr (ap Err (h ∙ is)))

      by : (b : Bool) → is_outer f ≡ b
          → IfSome content (λ c. IsRefused folder c g → (◌≡◌ {A = Result A OpenFault} (Err e) (Err g)) ⊎ (◌≡◌ {A = Result A OpenFault} (Err e) (Err HostFailed)) ⊎ (◌≡◌ {A = Result A OpenFault} (Err e) (Err Memory)))
      by true is = always (λ c. IsRefused folder c g → (◌≡◌ {A = Result A OpenFault} (Err e) (Err g)) ⊎ (◌≡◌ {A = Result A OpenFault} (Err e) (Err HostFailed)) ⊎ (◌≡◌ {A = Result A OpenFault} (Err e) (Err Memory)))
          content (λ c other. outer (outer_fault f is))
      by false is = from_content (λ c. IsRefused folder c f) (λ c. IsRefused folder c g → (◌≡◌ {A = Result A OpenFault} (Err e) (Err g)) ⊎ (◌≡◌ {A = Result A OpenFault} (Err e) (Err HostFailed)) ⊎ (◌≡◌ {A = Result A OpenFault} (Err e) (Err Memory)))
          content (λ c own other. inl (ap Err (h ∙ one_reason folder c f g own other))) (why is)

pub folder_opened : (content : Option Content) (folder : Path) (facts new_messages : Values) (tree manifest found : Files) → facts ≡ new_messages → tree ≡ merged manifest found
    → IfSome content (λ c. IsPrepared folder (held c)) → IfSome content (λ c. Says folder c new_messages manifest) → IfSome content (λ c. fault_among 0 0 (objects_below folder c) ≡ None)
    → IfSome content (λ c. found ≡ real_in folder c) → IfSome content (λ c. IsOpened folder c facts tree)
folder_opened None folder facts new_messages tree manifest found same is prepared says sound are = tt
folder_opened (Some c) folder facts new_messages tree manifest found same is prepared says sound are = record {
  manifest = manifest;
  prepared = prepared;
  says = subst (λ (v : Values). Says folder c v manifest) (sym same) says;
  sound = sound;
  is_merged = is ∙ ap (merged manifest) are;
}

-- ---- what is real, path by path

find_above : (q p : Path) (es : List (Path × Object)) → q ≡ p → T (below_all path_cmp p es) → find path_cmp q es ≡ None
find_above q p [] same h = refl
find_above q p (e ∷ es) same h =
    let parts = each_T (is_lt (path_cmp p e.0)) (below_all path_cmp p es) h in
    ap (λ (k : Path). cond (eq_by_cmp path_cmp k e.0) (Some e.1) (find path_cmp q es)) same
    ∙ ap (λ r. cond (is_eq r) (Some e.1) (find path_cmp q es)) (less_of-T (path_cmp p e.0) parts.0)
    ∙ find_above q p es same parts.1

find_real : (q : Path) (es : List (Path × HostObject)) → T (is_sorted path_cmp es) → find path_cmp q (real_entries es) ≡ option_and_then object_of (find path_cmp q es)
find_real q [] h = refl
find_real q (e ∷ es) h =
    let parts = each_T (below_all path_cmp e.0 es) (is_sorted path_cmp es) h in
    by (eq_by_cmp path_cmp q e.0) refl (object_of e.1) refl (real_below e.0 es parts.0) (find_real q es parts.1)
  where
    by : (b : Bool) → eq_by_cmp path_cmp q e.0 ≡ b → (o : Option Object) → object_of e.1 ≡ o → T (below_all path_cmp e.0 (real_entries es))
        → find path_cmp q (real_entries es) ≡ option_and_then object_of (find path_cmp q es)
        → find path_cmp q (cons_option (option_map (λ v. (e.0, v)) o) (real_entries es)) ≡ option_and_then object_of (cond b (Some e.1) (find path_cmp q es))
    by true is None at below rest = find_above q e.0 (real_entries es) (tied-equal q e.0 is) below ∙ sym at
    by true is (Some v) at below rest = ap (λ b. cond b (Some v) (find path_cmp q (real_entries es))) is ∙ sym at
    by false is None at below rest = rest
    by false is (Some v) at below rest = ap (λ b. cond b (Some v) (find path_cmp q (real_entries es))) is ∙ rest

pub places-real : (folder : Path) (c : Content) (q : Path) → places (real_in folder c) q ≡ option_and_then object_of (held c (tree_path folder ++ q))
places-real folder c q =
    fin.get-from_entries path_total (real_entries (objects_in folder c)) q
    ∙ find_real q (objects_in folder c) (objects_sorted folder c)
    ∙ ap (option_and_then object_of) (objects_found folder c q)

-- ---- what is kept is opened again

-- a directory that is real, or nothing, in a tree that agrees
real_directory : (o : Option Object) → kind_of o ≡ Some node.Directory → kind_of (option_and_then object_of (real_of o)) ≡ Some node.Directory
real_directory None e = cc
real_directory (Some o) e =
    let is : o.node.kind ≡ node.Directory = cc in
    subst (λ (k : Kind). kind_of (option_and_then object_of (real_as k o.payload)) ≡ Some node.Directory) (sym is) refl

unreal : (k : Kind) (o : Object) → o.node.kind ≡ k → is_real_kind k ≡ false → (parent : Option Kind) → parent ≡ Some node.Directory → merged_of (Some o) None parent ≡ Some o
unreal k o is other parent above = ap (merged_of (Some o) None) above ∙ ap (λ b. cond b None (Some o)) (ap is_real_kind is ∙ other)

again : (k : Kind) (o : Object) → o.node.kind ≡ k → PayloadFits k (emptied_payload k o.payload) → (parent : Option Kind) → (k ≢ node.Directory → parent ≡ Some node.Directory)
    → merged_of (Some (record o { payload = emptied_payload k o.payload })) (option_and_then object_of (real_as k o.payload)) parent ≡ Some o
again node.Directory o is fits parent above =
    ap (λ (k : Kind). Some (cond (same_kind k node.Directory) (record { node = o.node; payload = [] }) (plain (fresh node.Directory 0o755 [] 0 0 0)))) is
    ∙ ap (λ (b : List ℕ). Some (record { node = o.node; payload = b })) (sym fits)
again node.File o is fits parent above =
    ap (λ (k : Kind). Some (cond (same_kind k node.File) (record { node = o.node; payload = o.payload }) (plain (fresh node.File 0o644 o.payload 0 0 0)))) is
again node.Link o is fits parent above = unreal node.Link o is refl parent (above (λ e. cc))
again node.Fifo o is fits parent above = unreal node.Fifo o is refl parent (above (λ e. cc))
again node.CharDevice o is fits parent above = unreal node.CharDevice o is refl parent (above (λ e. cc))
again node.BlockDevice o is fits parent above = unreal node.BlockDevice o is refl parent (above (λ e. cc))

module _ (folder : Path) (c : Content) (t : Files) (tree : IsTree (with_empty_files t)) (agrees : Agrees folder t (held c)) where
  real_at : (q : Path) → places (real_in folder c) q ≡ option_and_then object_of (real_of (places t q))
  real_at q = places-real folder c q ∙ ap (option_and_then object_of) (agrees q)

  kind_at : (q : Path) → kind_of (places (with_empty_files t) q) ≡ kind_of (places t q)
  kind_at q = ap kind_of (places-emptied t q) ∙ kind_of-emptied (places t q)

  emptied_at : (q : Path) (o : Object) → places t q ≡ Some o → places (with_empty_files t) q ≡ Some (emptied o)
  emptied_at q o is = places-emptied t q ∙ ap (option_map emptied) is

  parent_real : (q : Path) (o : Object) → places t q ≡ Some o → (o.node.kind ≢ node.Directory) → kind_of (places (real_in folder c) (parent_of q)) ≡ Some node.Directory
  parent_real q o is other =
      ap kind_of (real_at (parent_of q))
      ∙ real_directory (places t (parent_of q)) (sym (kind_at (parent_of q)) ∙ tree.parents q (ap is_some (emptied_at q o is)) (λ e.
      let root : Some o.node.kind ≡ Some node.Directory = sym (ap kind_of is) ∙ ap (λ (p : Path). kind_of (places t p)) e ∙ sym (kind_at []) ∙ tree.root in
      other cc))

  at_path : (q : Path) (o : Option Object) → places t q ≡ o
      → merged_of (option_map emptied o) (option_and_then object_of (real_of o)) (kind_of (places (real_in folder c) (parent_of q))) ≡ o
  at_path q None is = refl
  at_path q (Some o) is = again o.node.kind o refl (tree.objects q (emptied o) (emptied_at q o is)).payload (kind_of (places (real_in folder c) (parent_of q))) (parent_real q o is)

  -- the manifest of a tree that a folder keeps, merged with what is real there, is the tree
  pub reopened : merged (with_empty_files t) (real_in folder c) ≡ t
  reopened = fin.same_map path_total path_exact (merged (with_empty_files t) (real_in folder c)) t (λ q.
      places-merged (with_empty_files t) (real_in folder c) q
      ∙ ap (λ (m : Option Object). merged_of m (places (real_in folder c) q) (kind_of (places (real_in folder c) (parent_of q)))) (places-emptied t q)
      ∙ ap (λ (r : Option Object). merged_of (option_map emptied (places t q)) r (kind_of (places (real_in folder c) (parent_of q)))) (real_at q)
      ∙ at_path q (places t q) refl)
