-- Laws of a folder that is ready for a tree: one that holds a tree is, and it stays so in steps on that tree.
use Rattle.std.specs.Prelude.{◌≡◌, ℕ, ◌<◌, ◌≤◌, ◌^◌, Bool, true, false, ◌&&◌, List, [], ◌∷◌, ◌++◌, codes, Option, Some, None, is_some, option_map, IfSome}
use Rattle.std.specs.Option.{option_to_list}
use Rattle.std.proofs.Common.{refl, sym, ap, subst, ◌∙◌, inl, inr, append_assoc, append-nil}
use Rattle.std.proofs.lemmas.Option.{same_Some}
use Rattle.pv_path.specs.Paths.{Path, has_names, is_prefix, parent_of}
use Rattle.pv_path.proofs.PathLaws.{has_names-append, has_names-prefix, is_prefix-append, parent_of-push}
use Rattle.pv_steps.specs.declared.node.Kind.{Kind}
use Rattle.pv_steps.specs.declared.node.Kind.TheVariants as kind
use Rattle.pv_steps.specs.declared.object.Object.{Object}
use Rattle.pv_steps.specs.declared.step.Step.{Step}
use Rattle.pv_steps.specs.Trees.{Files, IsTree, Places, kind_of, places}
use Rattle.pv_steps.specs.Steps.{Can, StepFits, after}
use Rattle.pv_steps.proofs.StepLaws.{at_after}
use Rattle.pv_steps.proofs.TreeLaws.{tree_after}
use Rattle.pv_folder.specs.declared.item.HostKind.TheVariants as named
use Rattle.pv_folder.specs.Content as host
use Rattle.pv_folder.specs.Content.{Change, Content, Held, HostObject, IsAbsent, IsContent, IsDirectory, IsPresent, changed, held}
use Rattle.pv_folder.specs.Folders.{Agrees, IsFree, IsPrepared, IsSameElse, manifest_path, new_manifest_path, real_as, real_of, tree_path}
use Rattle.pv_folder.specs.Keeping.{IsAtMostAhead, IsChangedBy, IsReady, IsSameOutside, Keeps, MayAskFor, Moves, ahead, all_made, change_for, one_more}
use Rattle.pv_folder.specs.Made.{AreRecorded, HasMade}
use Rattle.pv_folder.proofs.MadeLaws.{made_asked}
use Rattle.pv_folder.proofs.AgreeLaws.{MayDo, agrees_after, done, may_ask, same_elsewhere}
use Rattle.pv_folder.proofs.BelowLaws.{below_some, beside, longer}

-- ---- a folder that holds a tree is ready for it

directory_present : (o : Option HostObject) → option_map host.kind_of o ≡ Some named.Directory → is_some o ≡ true
directory_present None e = cc
directory_present (Some o) e = refl

module _ (t : Held) (is : IsContent t) where
  -- what is above something is there
  above : (path rest : Path) → IsPresent t (path ++ rest) → IsPresent t path
  above path [] h = subst (λ (p : Path). IsPresent t p) (append-nil path) h
  above path (name ∷ rest) h =
      let below : IsPresent t ((path ++ name ∷ []) ++ rest) = subst (λ (p : Path). IsPresent t p) (sym (append_assoc path (name ∷ []) rest)) h in
      let parent = is.parents (path ++ name ∷ []) (above (path ++ name ∷ []) rest below) (below_some path (name ∷ []) (λ e. cc)) in
      subst (λ (p : Path). IsPresent t p) (parent_of-push path name) (directory_present (t (parent_of (path ++ name ∷ []))) parent)

  -- and is a directory
  directory_above : (path : Path) (name : List ℕ) (rest : Path) → IsPresent t (path ++ name ∷ rest) → IsDirectory t path
  directory_above path name rest h =
      let below : IsPresent t ((path ++ name ∷ []) ++ rest) = subst (λ (p : Path). IsPresent t p) (sym (append_assoc path (name ∷ []) rest)) h in
      subst (λ (p : Path). IsDirectory t p) (parent_of-push path name)
      (is.parents (path ++ name ∷ []) (above (path ++ name ∷ []) rest below) (below_some path (name ∷ []) (λ e. cc)))

  nothing_below : (path : Path) → IsFree t path → (name : List ℕ) (rest : Path) → IsAbsent t (path ++ name ∷ rest)
  nothing_below path free name rest = by (t (path ++ name ∷ rest)) refl
    where
      never : IsFree t path → IsDirectory t path → ⊥
      never (inl h) d = let no : None ≡ Some named.Directory = sym (ap (option_map host.kind_of) h) ∙ d in cc
      never (inr h) d = let no : Some named.File ≡ Some named.Directory = sym h ∙ d in cc

      by : (o : Option HostObject) → t (path ++ name ∷ rest) ≡ o → t (path ++ name ∷ rest) ≡ None
      by None e = e
      by (Some o) e = absurd (never free (directory_above path name rest (ap is_some e)))

  pub ready_of : (folder : Path) → IsPrepared folder t → IsReady folder t
  ready_of folder prepared =
      let there : IsPresent t (tree_path folder) = directory_present (t (tree_path folder)) prepared.tree in
      record {
        names = has_names-prefix folder (tree_path folder) (is_prefix-append folder (codes "tree" ∷ [])) (is.names (tree_path folder) there);
        place = directory_above folder (codes "tree") [] there;
        prepared = prepared;
        alone = nothing_below (manifest_path folder) prepared.manifest;
        new_alone = nothing_below (new_manifest_path folder) prepared.new_manifest;
      }

-- what is told of a content that holds a tree
pub ready_kept : (folder : Path) (files : Files) (o : Option Content) → IfSome o (λ c. Keeps folder files c) → IfSome o (λ c. IsReady folder (held c))
ready_kept folder files None keeps = tt
ready_kept folder files (Some c) keeps = ready_of (held c) keeps.is_content folder keeps.prepared

pub agrees_kept : (folder : Path) (files : Files) (o : Option Content) → IfSome o (λ c. Keeps folder files c) → IfSome o (λ c. Agrees folder files (held c))
agrees_kept folder files None keeps = tt
agrees_kept folder files (Some c) keeps = keeps.agrees

-- ---- a folder stays ready where nothing changes outside of its tree, and that stays a directory

manifest_outside : (folder rest : Path) → is_prefix (tree_path folder) (folder ++ codes "manifest" ∷ rest) ≡ false
manifest_outside folder rest = beside folder (codes "tree") (codes "manifest") rest refl

new_outside : (folder rest : Path) → is_prefix (tree_path folder) (folder ++ codes "manifest.new" ∷ rest) ≡ false
new_outside folder rest = beside folder (codes "tree") (codes "manifest.new") rest refl

free_as : (t u : Held) (path : Path) → u path ≡ t path → IsFree t path → IsFree u path
free_as t u path same (inl h) = inl (same ∙ h)
free_as t u path same (inr h) = inr (ap (option_map host.kind_of) same ∙ h)

module _ (folder : Path) (t u : Held) (same : IsSameElse folder t u) (tree : IsDirectory u (tree_path folder)) (ready : IsReady folder t) where
  pub stays_ready : IsReady folder u
  stays_ready = record {
    names = ready.names;
    place = ap (option_map host.kind_of) (same folder (longer folder (codes "tree"))) ∙ ready.place;
    prepared = record {
      tree = tree;
      manifest = free_as t u (manifest_path folder) (same (manifest_path folder) (manifest_outside folder [])) ready.prepared.manifest;
      new_manifest = free_as t u (new_manifest_path folder) (same (new_manifest_path folder) (new_outside folder [])) ready.prepared.new_manifest;
    };
    alone = λ name rest.
        same (manifest_path folder ++ name ∷ rest) (ap (is_prefix (tree_path folder)) (append_assoc folder (codes "manifest" ∷ []) (name ∷ rest)) ∙ manifest_outside folder (name ∷ rest))
        ∙ ready.alone name rest;
    new_alone = λ name rest.
        same (new_manifest_path folder ++ name ∷ rest) (ap (is_prefix (tree_path folder)) (append_assoc folder (codes "manifest.new" ∷ []) (name ∷ rest)) ∙ new_outside folder (name ∷ rest))
        ∙ ready.new_alone name rest;
  }

-- ---- steps

pub directory_real : (files : Files) → IsTree files → option_map host.kind_of (real_of (places files [])) ≡ Some named.Directory
directory_real files tree = by (places files []) tree.root
  where
    by : (o : Option Object) → kind_of o ≡ Some kind.Directory → option_map host.kind_of (real_of o) ≡ Some named.Directory
    by None e = cc
    by (Some o) e = let is : o.node.kind ≡ kind.Directory = cc in ap (λ (k : Kind). option_map host.kind_of (real_as k o.payload)) is

-- what a change that is told leaves
told_change : (call : Option Change) (c : Content) (new : Option Content) → IsChangedBy call (Some c) new → (d : Content) × (new ≡ Some d) × (held d ≡ done call (held c))
told_change (Some change) c (Some d) is = (d, refl, same_Some (held d) (changed change (held c)) is)
told_change (Some change) c None is = cc
told_change None c new is = (c, is, refl)

untold_change : (call : Option Change) (new : Option Content) → IsChangedBy call None new → new ≡ None
untold_change (Some change) None is = refl
untold_change (Some change) (Some d) is = cc
untold_change None new is = is

module _ (folder : Path) (files : Files) (s : Step) (now : ℕ) (tree : IsTree files) (can : Can (places files) s) (fits : StepFits s) where
  pub may_ask_for : (old : Option Content) → IfSome old (λ c. IsReady folder (held c)) → IfSome old (λ c. Agrees folder files (held c)) → MayAskFor old (change_for (tree_path folder) (places files) s)
  may_ask_for None ready agrees = by (change_for (tree_path folder) (places files) s)
    where
      by : (call : Option Change) → MayAskFor None call
      by (Some change) = tt
      by None = tt
  may_ask_for (Some c) ready agrees =
      by (change_for (tree_path folder) (places files) s)
      (may_ask (tree_path folder) (places files) (held c) agrees tree ready_names s can fits)
    where
      ready_names : has_names (tree_path folder) ≡ true
      ready_names = has_names-append folder (codes "tree" ∷ []) ∙ ap (λ b. b && true) ready.names

      by : (call : Option Change) → MayDo (held c) call → MayAskFor (Some c) call
      by (Some change) may = may
      by None may = tt

  module _ (old new : Option Content) (asked : IsChangedBy (change_for (tree_path folder) (places files) s) old new) where
    pub outside_step : IsSameOutside folder old new
    outside_step = by old asked
      where
        by : (o : Option Content) → IsChangedBy (change_for (tree_path folder) (places files) s) o new → IsSameOutside folder o new
        by None is = untold_change (change_for (tree_path folder) (places files) s) new is
        by (Some c) is =
            let from_content = told_change (change_for (tree_path folder) (places files) s) c new is in
            subst (λ (o : Option Content). IsSameOutside folder (Some c) o) (sym from_content.1)
            (λ path out. ap (λ (u : Held). u path) from_content.2 ∙ same_elsewhere (tree_path folder) (places files) (held c) path out s)

    pub agrees_step : IfSome old (λ c. Agrees folder files (held c)) → IfSome new (λ c. Agrees folder (after files s now) (held c))
    agrees_step agrees = by old asked agrees
      where
        by : (o : Option Content) → IsChangedBy (change_for (tree_path folder) (places files) s) o new → IfSome o (λ c. Agrees folder files (held c))
            → IfSome new (λ c. Agrees folder (after files s now) (held c))
        by None is agrees =
            subst (λ (o : Option Content). IfSome o (λ c. Agrees folder (after files s now) (held c))) (sym (untold_change (change_for (tree_path folder) (places files) s) new is)) tt
        by (Some c) is agrees =
            let from_content = told_change (change_for (tree_path folder) (places files) s) c new is in
            subst (λ (o : Option Content). IfSome o (λ c. Agrees folder (after files s now) (held c))) (sym from_content.1)
            (λ path. ap (λ (u : Held). u (tree_path folder ++ path)) from_content.2
            ∙ agrees_after (tree_path folder) (places files) (held c) agrees tree s now can path
            ∙ ap (λ (t : Places). real_of (t path)) (sym (at_after files s now)))

    pub ready_step : now < 2 ^ 64 → IfSome old (λ c. IsReady folder (held c)) → IfSome old (λ c. Agrees folder files (held c)) → IfSome new (λ c. IsReady folder (held c))
    ready_step fits_now ready agrees = by old new asked ready (agrees_step agrees) outside_step
      where
        at_root : (u : Held) → Agrees folder (after files s now) u → IsDirectory u (tree_path folder)
        at_root u agrees =
            ap (λ (p : Path). option_map host.kind_of (u p)) (sym (append-nil (tree_path folder)))
            ∙ ap (option_map host.kind_of) (agrees [])
            ∙ directory_real (after files s now) (tree_after files s now tree can fits fits_now)

        by : (o n : Option Content) → IsChangedBy (change_for (tree_path folder) (places files) s) o n → IfSome o (λ c. IsReady folder (held c))
            → IfSome n (λ c. Agrees folder (after files s now) (held c)) → IsSameOutside folder o n → IfSome n (λ c. IsReady folder (held c))
        by (Some c) (Some d) is ready agrees same = stays_ready folder (held c) (held d) same (at_root (held d) agrees) ready
        by (Some c) None is ready agrees same = tt
        by None None is ready agrees same = tt
        by None (Some d) is ready agrees same = let no : Some d ≡ None = same in cc

-- ---- how a step moves a folder

-- and one that has it after a step is one step ahead
pub is_ahead : (folder : Path) (files : Files) (step : Step) (now : ℕ) (content : Option Content) → Can (places files) step
    → IfSome content (λ c. Agrees folder (after files step now) (held c)) → IfSome content (λ c. IsAtMostAhead folder files (held c))
is_ahead folder files step now None can agrees = tt
is_ahead folder files step now (Some c) can agrees = ahead step now can agrees

-- by whether a step had run out of memory before, and has now
module _ (folder : Path) (t u : Files) (h k : List Step) (old new : Option Content) (l m : Option (List Change)) (n f : ℕ) (was will : Bool)
    (began : was ≡ false) (up : n ≤ f) where
  abbrev Moved : Type 0
  Moved = Moves (record { folder = folder; files = t; steps = h; content = old; changes = l; faults = n; pending = was })
      (record { folder = folder; files = u; steps = k; content = new; changes = m; faults = f; pending = will })

  lasting : was ≡ true → will ≡ true
  lasting is = absurd (let no : false ≡ true = sym began ∙ is in cc)

  module _ (s : Step) (now : ℕ) (outside : IsSameOutside folder old new) (asked : IsChangedBy (change_for (tree_path folder) (places t) s) old new)
      (recorded : AreRecorded (option_to_list (change_for (tree_path folder) (places t) s)) l m) where
    -- one that was done
    pub moves_done : will ≡ false → u ≡ after t s now → k ≡ h ++ s ∷ [] → Moved
    moves_done settled files steps = record {
      same = refl;
      outside = outside;
      count = up;
      lasts = lasting;
      near = λ is. absurd (let no : false ≡ true = sym settled ∙ is in cc);
      steps = (s, now) ∷ [];
      recorded = steps;
      reached = files;
      asked = all_made began (subst (λ (made : List Change). HasMade made old new l m) (sym (append-nil (option_to_list (change_for (tree_path folder) (places t) s))))
          (made_asked old new l m (change_for (tree_path folder) (places t) s) asked recorded));
    }

    -- one that was done on the host alone
    pub moves_half : will ≡ true → u ≡ t → k ≡ h → Can (places t) s → StepFits s → IfSome new (λ c. Agrees folder (after t s now) (held c)) → Moved
    moves_half pending files steps can fits agrees = record {
      same = refl;
      outside = outside;
      count = up;
      lasts = lasting;
      near = λ is. inr (subst (λ (v : Files). IfSome new (λ c. IsAtMostAhead folder v (held c))) (sym files) (is_ahead folder t s now new can agrees));
      steps = [];
      recorded = steps ∙ sym (append-nil h);
      reached = files;
      asked = one_more s began pending (subst (λ (v : Files). Can (places v) s) (sym files) can) fits
          (subst (λ (v : Files). HasMade (option_to_list (change_for (tree_path folder) (places v) s)) old new l m) (sym files)
          (made_asked old new l m (change_for (tree_path folder) (places t) s) asked recorded));
    }
