-- What a folder holds after the steps of a run and then its closing, which was done or not.
use Rattle.std.specs.Prelude.{◌≡◌, ◌≢◌, true, false, List, ℕ, [], ◌∷◌, ◌++◌, codes, Option, Some, None, Result, Ok, Err, IfSome, OnOk, OnErr, option_map, if◌then◌else◌}
use Rattle.std.proofs.Common.{refl, sym, ap, subst, ◌∙◌, append_assoc}
use Rattle.pv_path.specs.Names.{same_bytes}
use Rattle.pv_path.specs.Paths.{Path, is_prefix, same_path}
use Rattle.pv_path.proofs.PathLaws.{not_prefix_not_same, same_path-no, same_path-refl}
use Rattle.pv_steps.specs.Trees.{Files}
use Rattle.pv_steps.specs.Steps.{after}
use Rattle.pv_text.specs.Facts.{Values}
use Rattle.pv_folder.specs.Content.{Content, File, Held, held}
use Rattle.pv_folder.specs.declared.host.HostFault.{HostFault}
use Rattle.pv_folder.specs.Folders.{Agrees, IsSameElse, manifest_path, new_manifest_path, tree_path}
use Rattle.pv_folder.specs.Keeping.{HasManifest, IsAtMostAhead, IsClosed, IsSameButNew, IsSameOutside, ahead, level, with_manifest}
use Rattle.pv_folder.specs.Manifest.{IsManifest, manifest_of}
use Rattle.pv_folder.proofs.BelowLaws.{beside}
use Rattle.provision_run.specs.OnFolder.{IfKnown, IsKept, IsSameBeside, IsShort, IsUnclosed, new_one, old_one}

-- ---- paths told apart

-- what stands beside `tree` is not in it
beside_tree : (folder : Path) (name : List ℕ) (path : Path) → same_bytes name (codes "tree") ≡ false → same_path (folder ++ name ∷ []) (tree_path folder ++ path) ≡ false
beside_tree folder name path differs =
    not_prefix_not_same (folder ++ name ∷ []) (tree_path folder ++ path)
    (subst (λ (q : Path). is_prefix (folder ++ name ∷ []) q ≡ false) (sym (append_assoc folder (codes "tree" ∷ []) path))
    (beside folder name (codes "tree") path differs))

apart : (p q : Path) → same_path p q ≡ false → q ≢ p
apart p q differ e =
    let no : true ≡ false = sym (same_path-refl p) ∙ ap (same_path p) (sym e) ∙ differ in
    cc

-- ---- what closing leaves

-- what is below `tree` is the same, and so is what is beside the manifests
record IsCloseTo (folder : Path) (old new : Held) : Type 0 where
  below : (path : Path) → new (tree_path folder ++ path) ≡ old (tree_path folder ++ path)
  beside : IsSameBeside folder old new

module _ (folder : Path) (bytes : List ℕ) (old new : Held) (is : new ≡ with_manifest folder bytes old) where
  at : (q : Path) → new q ≡ with_manifest folder bytes old q
  at q = ap (λ (t : Held). t q) is

  elsewhere : (q : Path) → same_path (manifest_path folder) q ≡ false → same_path (new_manifest_path folder) q ≡ false → with_manifest folder bytes old q ≡ old q
  elsewhere q a b =
      ap (λ c. if c then Some (File bytes) else if same_path (new_manifest_path folder) q then None else old q) a
      ∙ ap (λ c. if c then None else old q) b

  at_manifest : with_manifest folder bytes old (manifest_path folder) ≡ Some (File bytes)
  at_manifest = ap (λ c. if c then Some (File bytes) else if same_path (new_manifest_path folder) (manifest_path folder) then None else old (manifest_path folder)) (same_path-refl (manifest_path folder))

  closed_to : IsCloseTo folder old new
  closed_to = record {
    below = λ path. at (tree_path folder ++ path)
        ∙ elsewhere (tree_path folder ++ path) (beside_tree folder (codes "manifest") path refl) (beside_tree folder (codes "manifest.new") path refl);
    beside = λ path out no no_new. at path
        ∙ elsewhere path (same_path-no (manifest_path folder) path (λ e. no (sym e))) (same_path-no (new_manifest_path folder) path (λ e. no_new (sym e)));
  }

  closed_manifest : new (manifest_path folder) ≡ Some (File bytes)
  closed_manifest = at (manifest_path folder) ∙ at_manifest

module _ (folder : Path) (old new : Held) (same : (path : Path) → path ≢ new_manifest_path folder → new path ≡ old path) where
  unclosed_to : IsCloseTo folder old new
  unclosed_to = record {
    below = λ path. same (tree_path folder ++ path) (apart (new_manifest_path folder) (tree_path folder ++ path) (beside_tree folder (codes "manifest.new") path refl));
    beside = λ path out no no_new. same path no_new;
  }

  unclosed_manifest : new (manifest_path folder) ≡ old (manifest_path folder)
  unclosed_manifest =
      same (manifest_path folder)
      (apart (new_manifest_path folder) (manifest_path folder)
      (not_prefix_not_same (new_manifest_path folder) (manifest_path folder) (beside folder (codes "manifest.new") (codes "manifest") [] refl)))

-- ---- after steps that changed nothing outside of `tree`

module _ (folder : Path) (facts : Values) (left : Files) (x y z : Held) (outside : IsSameElse folder x y) where
  module _ (close : IsCloseTo folder y z) where
    all_beside : IsSameBeside folder x z
    all_beside = λ path out no no_new. close.beside path out no no_new ∙ outside path out

    agrees_close : (t : Files) → Agrees folder t y → Agrees folder t z
    agrees_close t agrees = λ path. close.below path ∙ agrees path

    near_close : IsAtMostAhead folder left y → IsAtMostAhead folder left z
    near_close (level agrees) = level (agrees_close left agrees)
    near_close (ahead step now can agrees) = ahead step now can (agrees_close (after left step now) agrees)

  -- the folder is closed
  module _ (is : z ≡ with_manifest folder (manifest_of facts left) y) (image : IsManifest facts left) where
    kept_held : Agrees folder left y → IsKept folder facts left x z
    kept_held agrees = record {
      agrees = agrees_close (closed_to folder (manifest_of facts left) y z is) left agrees;
      manifest = closed_manifest folder (manifest_of facts left) y z is;
      image = image;
      outside = all_beside (closed_to folder (manifest_of facts left) y z is);
    }

    closed_short : IsAtMostAhead folder left y → IsShort folder facts left x z
    closed_short near = record {
      near = near_close (closed_to folder (manifest_of facts left) y z is) near;
      manifest = new_one (closed_manifest folder (manifest_of facts left) y z is) image;
      outside = all_beside (closed_to folder (manifest_of facts left) y z is);
    }

  -- it is not
  module _ (same : (path : Path) → path ≢ new_manifest_path folder → z path ≡ y path) where
    manifest_kept : z (manifest_path folder) ≡ x (manifest_path folder)
    manifest_kept = unclosed_manifest folder y z same ∙ outside (manifest_path folder) (beside folder (codes "tree") (codes "manifest") [] refl)

    unclosed_held : Agrees folder left y → IsUnclosed folder left x z
    unclosed_held agrees = record {
      agrees = agrees_close (unclosed_to folder y z same) left agrees;
      manifest = manifest_kept;
      outside = all_beside (unclosed_to folder y z same);
    }

    unclosed_short : IsAtMostAhead folder left y → IsShort folder facts left x z
    unclosed_short near = record {
      near = near_close (unclosed_to folder y z same) near;
      manifest = old_one manifest_kept;
      outside = all_beside (unclosed_to folder y z same);
    }

-- ---- of a host that tells what it holds, and of one that does not

none_of : (new : Option Content) → option_map held new ≡ None → new ≡ None
none_of None e = refl
none_of (Some z) e = let no : Some (held z) ≡ None = e in cc

module _ (folder : Path) (P : Held → Type 0) (Q : Held → Held → Type 0) where
  told_closed : (bytes : List ℕ) → ((x y z : Held) → IsSameElse folder x y → z ≡ with_manifest folder bytes y → P y → Q x z) → (old mid new : Option Content)
      → IsSameOutside folder old mid → IfSome mid (λ c. P (held c)) → HasManifest folder bytes mid new → IfKnown Q old new
  told_closed bytes by None mid new outside holds has = none_of new (subst (λ (o : Option Content). HasManifest folder bytes o new) outside has)
  told_closed bytes by (Some x) None new outside holds has = absurd outside
  told_closed bytes by (Some x) (Some y) None outside holds has = absurd (let no : None ≡ Some (with_manifest folder bytes (held y)) = has in cc)
  told_closed bytes by (Some x) (Some y) (Some z) outside holds has =
      let both : Some (held z) ≡ Some (with_manifest folder bytes (held y)) = has in
      by (held x) (held y) (held z) outside (let same : held z ≡ with_manifest folder bytes (held y) = (cc) in same) holds

  told_unclosed : ((x y z : Held) → IsSameElse folder x y → ((path : Path) → path ≢ new_manifest_path folder → z path ≡ y path) → P y → Q x z) → (old mid new : Option Content)
      → IsSameOutside folder old mid → IfSome mid (λ c. P (held c)) → IsSameButNew folder mid new → IfKnown Q old new
  told_unclosed by None mid new outside holds same = subst (λ (o : Option Content). IsSameButNew folder o new) outside same
  told_unclosed by (Some x) None new outside holds same = absurd outside
  told_unclosed by (Some x) (Some y) None outside holds same = absurd same
  told_unclosed by (Some x) (Some y) (Some z) outside holds same = by (held x) (held y) (held z) outside same holds

module _ (folder : Path) (facts : Values) (left : Files) (old mid new : Option Content) (outside : IsSameOutside folder old mid) where
  pub kept_in : IfSome mid (λ c. Agrees folder left (held c)) → IsClosed folder facts left mid new → IsManifest facts left → IfKnown (IsKept folder facts left) old new
  kept_in agrees closed image =
      told_closed folder (Agrees folder left) (IsKept folder facts left) (manifest_of facts left) (λ x y z out is holds. kept_held folder facts left x y z out is image holds) old mid new outside agrees closed

  pub unclosed_in : IfSome mid (λ c. Agrees folder left (held c)) → IsSameButNew folder mid new → IfKnown (IsUnclosed folder left) old new
  unclosed_in agrees same =
      told_unclosed folder (Agrees folder left) (IsUnclosed folder left) (λ x y z out is holds. unclosed_held folder facts left x y z out is holds) old mid new outside agrees same

  pub short_in : (closed : Result (Unit {0}) HostFault) → IfSome mid (λ c. IsAtMostAhead folder left (held c)) → OnOk closed (IsClosed folder facts left mid new)
      → OnOk closed (IsManifest facts left) → OnErr closed (IsSameButNew folder mid new) → IfKnown (IsShort folder facts left) old new
  short_in (Ok done) near closed image same =
      told_closed folder (IsAtMostAhead folder left) (IsShort folder facts left) (manifest_of facts left) (λ x y z out is holds. closed_short folder facts left x y z out is image holds) old mid new outside near closed
  short_in (Err fault) near closed image same =
      told_unclosed folder (IsAtMostAhead folder left) (IsShort folder facts left) (λ x y z out is holds. unclosed_short folder facts left x y z out is holds) old mid new outside near same

-- ---- what is kept is no less

pub kept_short : (folder : Path) (facts : Values) (left : Files) (old new : Option Content) → IfKnown (IsKept folder facts left) old new → IfKnown (IsShort folder facts left) old new
kept_short folder facts left (Some x) (Some y) kept = record { near = level kept.agrees; manifest = new_one kept.manifest kept.image; outside = kept.outside }
kept_short folder facts left (Some x) None kept = kept
kept_short folder facts left None new kept = kept

pub unclosed_is_short : (folder : Path) (facts : Values) (left : Files) (old new : Option Content) → IfKnown (IsUnclosed folder left) old new → IfKnown (IsShort folder facts left) old new
unclosed_is_short folder facts left (Some x) (Some y) kept = record { near = level kept.agrees; manifest = old_one kept.manifest; outside = kept.outside }
unclosed_is_short folder facts left (Some x) None kept = kept
unclosed_is_short folder facts left None new kept = kept

-- a new manifest is there
pub has_closed : (folder : Path) (bytes : List ℕ) (old new : Option Content) → HasManifest folder bytes old new → IfSome new (λ c. held c (manifest_path folder) ≡ Some (File bytes))
has_closed folder bytes old None has = tt
has_closed folder bytes None (Some z) has = let no : Some (held z) ≡ None = has in cc
has_closed folder bytes (Some y) (Some z) has =
    let both : Some (held z) ≡ Some (with_manifest folder bytes (held y)) = has in
    closed_manifest folder bytes (held y) (held z) (let same : held z ≡ with_manifest folder bytes (held y) = (cc) in same)
