-- A folder that is opened keeps the tree that it is opened with: its directories and files are exactly those that are real.
-- And one that keeps a tree and is closed is opened again with that tree.
use Rattle.std.proofs.Common.{◌≡◌, ◌≢◌, ◌∙◌, ◌+◌, suc, Bool, true, false, cond, T, List, [], ◌∷◌, ◌++◌, Option, Some, None, option_map, refl, sym, ap, ℕ, append-nil}
use Rattle.std.specs.Prelude.{drop}
use Rattle.std.specs.Option.{option_and_then}
use Rattle.std.specs.Ordering.{eq_by_cmp, is_lt}
use Rattle.std.specs.declared.cmp.Ordering.TheVariants.{Less}
use Rattle.std.specs.FinMap.Entries.{below_all, find, is_sorted}
use Rattle.std.proofs.lemmas.Option.{same_Some}
use Rattle.pv_path.specs.Paths.{Path, parent_of, path_cmp}
use Rattle.pv_path.proofs.PathLaws.{same_path-refl}
use Rattle.pv_path.proofs.Tests.{each_T, less_of-T}
use Rattle.pv_steps.specs.declared.node.Kind.{Kind}
use Rattle.pv_steps.specs.declared.node.Kind.TheVariants as node
use Rattle.pv_steps.specs.declared.node.Node.{Node}
use Rattle.pv_steps.specs.declared.object.Object.{Object}
use Rattle.pv_steps.specs.Objects.{fresh}
use Rattle.pv_steps.specs.Trees.{Files, kind_of, places}
use Rattle.pv_walk.specs.Nodes.{same_kind}
use Rattle.pv_text.specs.Facts.{Values}
use Rattle.pv_folder.specs.declared.item.HostKind.TheVariants as kind
use Rattle.pv_image.specs.Emptied.{with_empty_files}
use Rattle.pv_folder.specs.Content.{Content, Held, HostObject, IsContent, held, put_at}
use Rattle.pv_folder.specs.Content as host
use Rattle.pv_folder.specs.declared.open_fault.OpenFault.{OpenFault}
use Rattle.pv_folder.specs.declared.open_fault.OpenFault.TheVariants.{TooLarge}
use Rattle.pv_folder.specs.Folders.{Agrees, manifest_path, new_manifest_path, object_of, objects_in, real_as, real_in, real_of, tree_path}
use Rattle.pv_folder.specs.Keeping.{IsClosed, Keeps, with_manifest}
use Rattle.pv_folder.specs.Manifest.{IsManifest, manifest_of}
use Rattle.pv_folder.specs.Merge.{with_metadata, is_real_kind, merged_of, plain}
use Rattle.pv_folder.specs.Opening.{IsOpened, fault_among, is_over, objects_below, present, size}
use Rattle.pv_folder.proofs.ClosingLaws.{agrees_with, ready_with}
use Rattle.pv_folder.proofs.FolderLaws.{objects_found, objects_sorted}
use Rattle.pv_folder.proofs.MergeLaws.{places-merged, same_kind-exact}
use Rattle.pv_folder.proofs.OpeningLaws.{places-real, reopened}
use Rattle.pv_folder.proofs.ReadyLaws.{ready_kept}

-- ---- no other object

later : (t : Bool) (f : Option OpenFault) → cond t (Some TooLarge) f ≡ None → f ≡ None
later true f e = cc
later false f e = e

missed : (t : Bool) (o : HostObject) (r : Option HostObject) → (o ≢ host.Other) → cond t (Some o) r ≡ Some host.Other → r ≡ Some host.Other
missed true o r other e = absurd (let same : Some o ≡ Some host.Other = e in other cc)
missed false o r other e = e

-- among objects without a fault none is another one
none_other : (n b : ℕ) (es : List (Path × HostObject)) (p : Path) → fault_among n b es ≡ None → find path_cmp p es ≡ Some host.Other → ⊥
none_other n b [] p sound at = let no : None ≡ Some host.Other = at in cc
none_other n b ((q, host.Directory) ∷ es) p sound at =
    none_other (suc n) (b + 0) es p (later (is_over (suc n) (b + 0)) (fault_among (suc n) (b + 0) es) sound)
    (missed (eq_by_cmp path_cmp p q) host.Directory (find path_cmp p es) (λ e. cc) at)
none_other n b ((q, host.File bytes) ∷ es) p sound at =
    let count = b + size (host.File bytes) in
    none_other (suc n) count es p (later (is_over (suc n) count) (fault_among (suc n) count es) sound)
    (missed (eq_by_cmp path_cmp p q) (host.File bytes) (find path_cmp p es) (λ e. cc) at)
none_other n b ((q, host.Other) ∷ es) p sound at = cc

not_below : (q : Path) → path_cmp q [] ≡ Less → ⊥
not_below [] e = cc
not_below (k ∷ q) e = cc

-- the root comes first
no_root : (q : Path) (es : List (Path × HostObject)) → T (below_all path_cmp q es) → find path_cmp [] es ≡ None
no_root q [] h = refl
no_root q (([], o) ∷ es) h = absurd (not_below q (less_of-T (path_cmp q []) (each_T (is_lt (path_cmp q [])) (below_all path_cmp q es) h).0))
no_root q ((k ∷ p, o) ∷ es) h = no_root q es (each_T (is_lt (path_cmp q (k ∷ p))) (below_all path_cmp q es) h).1

behind_root : (es : List (Path × HostObject)) → T (is_sorted path_cmp es) → find path_cmp [] es ≡ Some host.Directory
    → (p : Path) → find path_cmp p es ≡ Some host.Other → find path_cmp p (drop 1 es) ≡ Some host.Other
behind_root [] h root p at = at
behind_root (([], o) ∷ es) h root p at =
    let is : Some o ≡ Some host.Directory = root in
    missed (eq_by_cmp path_cmp p []) o (find path_cmp p es) (λ e. let no : Some host.Directory ≡ Some host.Other = sym is ∙ ap Some e in cc) at
behind_root ((k ∷ q, o) ∷ es) h root p at =
    absurd (let no : None ≡ Some host.Directory = sym (no_root (k ∷ q) es (each_T (below_all path_cmp (k ∷ q) es) (is_sorted path_cmp es) h).0) ∙ root in cc)

directory_at : (o : Option HostObject) → option_map host.kind_of o ≡ Some kind.Directory → o ≡ Some host.Directory
directory_at None e = cc
directory_at (Some host.Directory) e = refl
directory_at (Some (host.File bytes)) e = cc
directory_at (Some host.Other) e = cc

-- ---- what is real is merged, and nothing else is

no_host_kind : (k : Kind) (o : Object) → o.node.kind ≡ k → real_of (cond (is_real_kind k) None (Some o)) ≡ None
no_host_kind node.Directory o e = refl
no_host_kind node.File o e = refl
no_host_kind node.Link o e = ap (λ (k : Kind). real_as k o.payload) e
no_host_kind node.Fifo o e = ap (λ (k : Kind). real_as k o.payload) e
no_host_kind node.CharDevice o e = ap (λ (k : Kind). real_as k o.payload) e
no_host_kind node.BlockDevice o e = ap (λ (k : Kind). real_as k o.payload) e

unreal : (m : Option Object) (parent : Option Kind) → real_of (merged_of m None parent) ≡ None
unreal None parent = refl
unreal (Some o) None = refl
unreal (Some o) (Some node.Directory) = no_host_kind o.node.kind o refl
unreal (Some o) (Some k) = refl

real_with_metadata : (n : Option Node) (r : Object) → real_of (Some (with_metadata n r)) ≡ real_of (Some r)
real_with_metadata None r = refl
real_with_metadata (Some n) r = by (same_kind n.kind r.node.kind) refl
  where
    by : (b : Bool) → same_kind n.kind r.node.kind ≡ b → real_of (Some (cond b (record r { node = n }) (plain r))) ≡ real_of (Some r)
    by true e = ap (λ (k : Kind). real_as k r.payload) (same_kind-exact n.kind r.node.kind e)
    by false e = refl

real_merged : (m : Option Object) (parent : Option Kind) (x : Option HostObject) → (x ≡ Some host.Other → ⊥)
    → real_of (merged_of m (option_and_then object_of x) parent) ≡ x
real_merged m parent None never = unreal m parent
real_merged m parent (Some host.Directory) never = real_with_metadata (option_map (λ o. o.node) m) (fresh node.Directory 0o755 [] 0 0 0)
real_merged m parent (Some (host.File bytes)) never = real_with_metadata (option_map (λ o. o.node) m) (fresh node.File 0o644 bytes 0 0 0)
real_merged m parent (Some host.Other) never = absurd (never refl)

module _ (folder : Path) (c : Content) (facts : Values) (tree : Files) (opened : IsOpened folder c facts tree) where
  root_there : find path_cmp [] (objects_in folder c) ≡ Some host.Directory
  root_there =
      objects_found folder c [] ∙ ap (held c) (append-nil (tree_path folder))
      ∙ directory_at (held c (tree_path folder)) opened.prepared.tree

  no_other : (p : Path) → held c (tree_path folder ++ p) ≡ Some host.Other → ⊥
  no_other p at =
      none_other 0 0 (objects_below folder c) p opened.sound
      (behind_root (objects_in folder c) (objects_sorted folder c) root_there p (objects_found folder c p ∙ at))

  real_there : (p : Path) → real_of (places tree p) ≡ held c (tree_path folder ++ p)
  real_there p =
      let real = real_in folder c in
      let parent = kind_of (places real (parent_of p)) in
      ap (λ (t : Files). real_of (places t p)) opened.is_merged
      ∙ ap real_of (places-merged opened.manifest real p)
      ∙ ap (λ (r : Option Object). real_of (merged_of (places opened.manifest p) r parent)) (places-real folder c p)
      ∙ real_merged (places opened.manifest p) parent (held c (tree_path folder ++ p)) (no_other p)

  pub opened_keeps : IsContent (held c) → Keeps folder tree c
  opened_keeps content = record { is_content = content; prepared = opened.prepared; agrees = λ p. sym (real_there p) }

-- ---- what is closed is opened again

pub closed_opens : (folder : Path) (old new : Content) (facts : Values) (files : Files) → Keeps folder files old → IsManifest facts files
    → IsClosed folder facts files (Some old) (Some new) → fault_among 0 0 (objects_below folder new) ≡ None → IsOpened folder new facts files
closed_opens folder old new facts files keeps image closed sound =
    let bytes = manifest_of facts files in
    let ready = ready_kept folder files (Some old) keeps in
    let agrees : Agrees folder files (held new) = agrees_with folder bytes files (Some old) (Some new) closed ready keeps.agrees in
    let is : held new ≡ with_manifest folder bytes (held old) = same_Some (held new) (with_manifest folder bytes (held old)) closed in
    let there : held new (manifest_path folder) ≡ Some (host.File bytes) =
    ap (λ (u : Held). u (manifest_path folder)) is
    ∙ ap (λ b. cond b (Some (host.File bytes)) (put_at (new_manifest_path folder) None (held old) (manifest_path folder))) (same_path-refl (manifest_path folder)) in
    record {
      manifest = with_empty_files files;
      prepared = (ready_with folder bytes (Some old) (Some new) closed ready).prepared;
      says = present bytes there image;
      sound = sound;
      is_merged = sym (reopened folder new files image.fit.tree agrees);
    }
