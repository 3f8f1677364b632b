-- Laws of a manifest that is written beside the old one and then moved over it.
use Rattle.std.specs.Prelude.{◌≡◌, ℕ, Bool, true, false, cond, ◌&&◌, List, [], ◌∷◌, ◌++◌, codes, Option, Some, None, is_some, option_map, IfSome, Result, Ok, Err, OnOk, OnErr}
use Rattle.std.proofs.Common.{refl, sym, ap, subst, ◌∙◌, inl, inr, append_assoc, append-nil}
use Rattle.std.proofs.lemmas.Option.{same_Some}
use Rattle.pv_path.specs.Names.{same_bytes}
use Rattle.pv_path.specs.Paths.{Path, is_prefix, rest_under, same_path}
use Rattle.pv_path.proofs.PathLaws.{has_names-push, not_prefix_not_same, parent_of-push, prefix_parts, rest_under-Some, same_path-no, same_path-refl}
use Rattle.pv_steps.specs.Trees.{Files}
use Rattle.pv_steps.proofs.TreeLaws.{no_rest_no_prefix}
use Rattle.pv_folder.specs.declared.host.HostFault.{HostFault}
use Rattle.pv_folder.specs.declared.item.HostKind.TheVariants as named
use Rattle.pv_folder.specs.Content as host
use Rattle.pv_folder.specs.Content.{Content, Held, HostObject, IsChanged, IsDirectory, MayAsk, May, changed, held, put_at}
use Rattle.pv_folder.specs.Folders.{Agrees, IsFree, manifest_path, new_manifest_path, tree_path}
use Rattle.pv_folder.specs.Keeping.{HasManifest, IsReady, IsSameButNew, with_manifest}
use Rattle.pv_folder.proofs.BelowLaws.{below_some, beside, longer, same_path-below}

-- ---- paths in a folder

-- what has different names in a folder lies at different paths
apart : (folder : Path) (x y : List ℕ) (r s : Path) → same_bytes x y ≡ false → same_path (folder ++ x ∷ r) (folder ++ y ∷ s) ≡ false
apart folder x y r s differ = same_path-below folder (x ∷ r) (y ∷ s) ∙ ap (λ b. b && same_path r s) differ

-- what lies below a path lies at another one
further : (p : Path) (name : List ℕ) (rest : Path) → same_path p (p ++ name ∷ rest) ≡ false
further p name rest = ap (λ (q : Path). same_path q (p ++ name ∷ rest)) (sym (append-nil p)) ∙ same_path-below p [] (name ∷ rest)

not_folder : (folder : Path) (name : List ℕ) → same_path (folder ++ name ∷ []) folder ≡ false
not_folder folder name = not_prefix_not_same (folder ++ name ∷ []) folder (longer folder name)

pub kept_at : (p q : Path) (o : Option HostObject) (t : Held) → same_path p q ≡ false → put_at p o t q ≡ t q
kept_at p q o t differ = ap (λ b. cond b o (t q)) differ

pub put_here : (p : Path) (o : Option HostObject) (t : Held) → put_at p o t p ≡ o
put_here p o t = ap (λ b. cond b o (t p)) (same_path-refl p)

-- a content with a manifest written beside the old one
abbrev pub written : Path → List ℕ → Held → Held
written folder bytes t = put_at (new_manifest_path folder) (Some (host.File bytes)) t

module _ (folder : Path) (bytes : List ℕ) (t : Held) (ready : IsReady folder t) where
  -- ---- writing

  -- at what has another name in the folder all is as before
  pub beside_new : (y : List ℕ) (s : Path) (o : Option HostObject) → same_bytes (codes "manifest.new") y ≡ false → put_at (new_manifest_path folder) o t (folder ++ y ∷ s) ≡ t (folder ++ y ∷ s)
  beside_new y s o differ = kept_at (new_manifest_path folder) (folder ++ y ∷ s) o t (apart folder (codes "manifest.new") y [] s differ)

  place_new : (o : Option HostObject) → IsDirectory (put_at (new_manifest_path folder) o t) folder
  place_new o = ap (option_map host.kind_of) (kept_at (new_manifest_path folder) folder o t (not_folder folder (codes "manifest.new"))) ∙ ready.place

  free_new : (o : Option HostObject) → IsFree (put_at (new_manifest_path folder) o t) (manifest_path folder)
  free_new o = by ready.prepared.manifest
    where
      same : put_at (new_manifest_path folder) o t (manifest_path folder) ≡ t (manifest_path folder)
      same = beside_new (codes "manifest") [] o refl

      by : IsFree t (manifest_path folder) → IsFree (put_at (new_manifest_path folder) o t) (manifest_path folder)
      by (inl h) = inl (same ∙ h)
      by (inr h) = inr (ap (option_map host.kind_of) same ∙ h)

  alone_new : (o : Option HostObject) (name : List ℕ) (rest : Path) → put_at (new_manifest_path folder) o t (manifest_path folder ++ name ∷ rest) ≡ None
  alone_new o name rest =
      ap (put_at (new_manifest_path folder) o t) (append_assoc folder (codes "manifest" ∷ []) (name ∷ rest))
      ∙ beside_new (codes "manifest") (name ∷ rest) o refl
      ∙ ap t (sym (append_assoc folder (codes "manifest" ∷ []) (name ∷ rest)))
      ∙ ready.alone name rest

  new_alone_new : (o : Option HostObject) (name : List ℕ) (rest : Path) → put_at (new_manifest_path folder) o t (new_manifest_path folder ++ name ∷ rest) ≡ None
  new_alone_new o name rest = kept_at (new_manifest_path folder) (new_manifest_path folder ++ name ∷ rest) o t (further (new_manifest_path folder) name rest) ∙ ready.new_alone name rest

  pub ready_written : IsReady folder (written folder bytes t)
  ready_written = record {
    names = ready.names;
    place = place_new (Some (host.File bytes));
    prepared = record {
      tree = ap (option_map host.kind_of) (beside_new (codes "tree") [] (Some (host.File bytes)) refl) ∙ ready.prepared.tree;
      manifest = free_new (Some (host.File bytes));
      new_manifest = inr (ap (option_map host.kind_of) (put_here (new_manifest_path folder) (Some (host.File bytes)) t));
    };
    alone = alone_new (Some (host.File bytes));
    new_alone = new_alone_new (Some (host.File bytes));
  }

  -- ---- moving

  pub may_move_new : May (written folder bytes t) (host.Rename (new_manifest_path folder) (manifest_path folder))
  may_move_new = record {
    present = ap is_some (put_here (new_manifest_path folder) (Some (host.File bytes)) t);
    no_root = below_some folder (codes "manifest.new" ∷ []) (λ e. cc);
    outside = beside folder (codes "manifest.new") (codes "manifest") [] refl;
    place = (
      subst (λ (p : Path). IsDirectory (written folder bytes t) p) (sym (parent_of-push folder (codes "manifest"))) (place_new (Some (host.File bytes))),
      has_names-push folder (codes "manifest") ready.names refl,
    );
    yields = by (free_new (Some (host.File bytes)));
  }
    where
      file_there : host.IsNoDirectory (written folder bytes t) (new_manifest_path folder)
      file_there = (
        ap is_some (put_here (new_manifest_path folder) (Some (host.File bytes)) t),
        λ is. let no : Some named.File ≡ Some named.Directory = sym (ap (option_map host.kind_of) (put_here (new_manifest_path folder) (Some (host.File bytes)) t)) ∙ is in cc,
      )

      file_of : (o : Option HostObject) → option_map host.kind_of o ≡ Some named.File → (is_some o ≡ true) × (option_map host.kind_of o ≡ Some named.Directory → ⊥)
      file_of None e = cc
      file_of (Some o) e = (refl, λ is. let no : Some named.File ≡ Some named.Directory = sym e ∙ is in cc)

      by : IsFree (written folder bytes t) (manifest_path folder) → host.Yields (written folder bytes t) (new_manifest_path folder) (manifest_path folder)
      by (inl h) = host.absent h
      by (inr h) = host.objects file_there (file_of (written folder bytes t (manifest_path folder)) h)

  pub moved_new : (q : Path) → changed (host.Rename (new_manifest_path folder) (manifest_path folder)) (written folder bytes t) q ≡ with_manifest folder bytes t q
  moved_new q = by (rest_under (manifest_path folder) q) refl
    where
      new : Path
      new = folder ++ codes "manifest.new" ∷ []

      -- nothing is left at and below the new one
      none_under : is_prefix (new_manifest_path folder) q ≡ true → put_at (new_manifest_path folder) None t q ≡ None
      none_under e = under (prefix_parts (new_manifest_path folder) q e)
        where
          under : (r : Path) × (q ≡ new_manifest_path folder ++ r) → put_at (new_manifest_path folder) None t q ≡ None
          under ([], is) = ap (put_at (new_manifest_path folder) None t) (is ∙ append-nil (new_manifest_path folder)) ∙ put_here (new_manifest_path folder) None t
          under (name ∷ rest, is) = ap (put_at (new_manifest_path folder) None t) is ∙ new_alone_new None name rest

      left : (b : Bool) → is_prefix (new_manifest_path folder) q ≡ b → cond b None (written folder bytes t q) ≡ put_at (new_manifest_path folder) None t q
      left true e = sym (none_under e)
      left false e =
          let differ = not_prefix_not_same (new_manifest_path folder) q e in
          kept_at (new_manifest_path folder) q (Some (host.File bytes)) t differ ∙ sym (kept_at (new_manifest_path folder) q None t differ)

      by : (rest : Option Path) → rest_under (manifest_path folder) q ≡ rest → host.moved_at (new_manifest_path folder) (written folder bytes t) q rest ≡ with_manifest folder bytes t q
      by None e =
          left (is_prefix (new_manifest_path folder) q) refl
          ∙ sym (kept_at (manifest_path folder) q (Some (host.File bytes)) (put_at (new_manifest_path folder) None t) (not_prefix_not_same (manifest_path folder) q (no_rest_no_prefix (manifest_path folder) q e)))
      by (Some []) e =
          let at : manifest_path folder ≡ q = sym (rest_under-Some (manifest_path folder) q [] e ∙ append-nil (manifest_path folder)) in
          ap (written folder bytes t) (append-nil (new_manifest_path folder))
          ∙ put_here (new_manifest_path folder) (Some (host.File bytes)) t
          ∙ sym (ap (with_manifest folder bytes t) (sym at) ∙ put_here (manifest_path folder) (Some (host.File bytes)) (put_at (new_manifest_path folder) None t))
      by (Some (name ∷ rest)) e =
          let at : q ≡ manifest_path folder ++ name ∷ rest = rest_under-Some (manifest_path folder) q (name ∷ rest) e in
          new_alone_new (Some (host.File bytes)) name rest
          ∙ sym (ap (with_manifest folder bytes t) at
          ∙ kept_at (manifest_path folder) (manifest_path folder ++ name ∷ rest) (Some (host.File bytes)) (put_at (new_manifest_path folder) None t) (further (manifest_path folder) name rest)
          ∙ alone_new None name rest)

  -- ---- what is then there

  -- at what has another name than both all is as before
  pub beside_both : (y : List ℕ) (s : Path) → same_bytes (codes "manifest") y ≡ false → same_bytes (codes "manifest.new") y ≡ false → with_manifest folder bytes t (folder ++ y ∷ s) ≡ t (folder ++ y ∷ s)
  beside_both y s one other =
      kept_at (manifest_path folder) (folder ++ y ∷ s) (Some (host.File bytes)) (put_at (new_manifest_path folder) None t) (apart folder (codes "manifest") y [] s one)
      ∙ beside_new y s None other

  new_gone : (s : Path) → with_manifest folder bytes t (folder ++ codes "manifest.new" ∷ s) ≡ put_at (new_manifest_path folder) None t (folder ++ codes "manifest.new" ∷ s)
  new_gone s =
      kept_at (manifest_path folder) (folder ++ codes "manifest.new" ∷ s) (Some (host.File bytes)) (put_at (new_manifest_path folder) None t) (apart folder (codes "manifest") (codes "manifest.new") [] s refl)

  pub ready_closed : IsReady folder (with_manifest folder bytes t)
  ready_closed = record {
    names = ready.names;
    place =
        ap (option_map host.kind_of) (kept_at (manifest_path folder) folder (Some (host.File bytes)) (put_at (new_manifest_path folder) None t) (not_folder folder (codes "manifest")))
        ∙ place_new None;
    prepared = record {
      tree = ap (option_map host.kind_of) (beside_both (codes "tree") [] refl refl) ∙ ready.prepared.tree;
      manifest = inr (ap (option_map host.kind_of) (put_here (manifest_path folder) (Some (host.File bytes)) (put_at (new_manifest_path folder) None t)));
      new_manifest = inl (new_gone [] ∙ put_here (new_manifest_path folder) None t);
    };
    alone = λ name rest.
        kept_at (manifest_path folder) (manifest_path folder ++ name ∷ rest) (Some (host.File bytes)) (put_at (new_manifest_path folder) None t) (further (manifest_path folder) name rest)
        ∙ alone_new None name rest;
    new_alone = λ name rest.
        ap (with_manifest folder bytes t) (append_assoc folder (codes "manifest.new" ∷ []) (name ∷ rest))
        ∙ new_gone (name ∷ rest)
        ∙ ap (put_at (new_manifest_path folder) None t) (sym (append_assoc folder (codes "manifest.new" ∷ []) (name ∷ rest)))
        ∙ new_alone_new None name rest;
  }

-- ---- contents that are told or not

untold_write : (change : host.Change) (new : Option Content) → IsChanged change None new → new ≡ None
untold_write change None is = refl
untold_write change (Some d) is = cc

module _ (folder : Path) (bytes : List ℕ) where
  -- what is there once the new manifest is written
  module _ (old mid : Option Content) (wrote : IsChanged (host.WriteFile (new_manifest_path folder) bytes) old mid) where
    pub ready_mid : IfSome old (λ c. IsReady folder (held c)) → IfSome mid (λ c. IsReady folder (held c))
    ready_mid = by old mid wrote
      where
        by : (o m : Option Content) → IsChanged (host.WriteFile (new_manifest_path folder) bytes) o m → IfSome o (λ c. IsReady folder (held c)) → IfSome m (λ c. IsReady folder (held c))
        by o None is ready = tt
        by None (Some m) is ready = cc
        by (Some c) (Some m) is ready = subst (λ (u : Held). IsReady folder u) (sym (same_Some (held m) _ is)) (ready_written folder bytes (held c) ready)

    pub may_move : IfSome old (λ c. IsReady folder (held c)) → MayAsk mid (host.Rename (new_manifest_path folder) (manifest_path folder))
    may_move = by old mid wrote
      where
        by : (o m : Option Content) → IsChanged (host.WriteFile (new_manifest_path folder) bytes) o m → IfSome o (λ c. IsReady folder (held c)) → MayAsk m (host.Rename (new_manifest_path folder) (manifest_path folder))
        by o None is ready = tt
        by None (Some m) is ready = cc
        by (Some c) (Some m) is ready =
            subst (λ (u : Held). May u (host.Rename (new_manifest_path folder) (manifest_path folder))) (sym (same_Some (held m) _ is)) (may_move_new folder bytes (held c) ready)

    pub same_mid : IsSameButNew folder old mid
    same_mid = by old mid wrote
      where
        by : (o m : Option Content) → IsChanged (host.WriteFile (new_manifest_path folder) bytes) o m → IsSameButNew folder o m
        by None m is = untold_write (host.WriteFile (new_manifest_path folder) bytes) m is
        by (Some c) None is = cc
        by (Some c) (Some m) is = λ path other.
            ap (λ (u : Held). u path) (same_Some (held m) _ is)
            ∙ kept_at (new_manifest_path folder) path (Some (host.File bytes)) (held c) (same_path-no (new_manifest_path folder) path (λ e. other (sym e)))

    module _ (new : Option Content) (moved : IsChanged (host.Rename (new_manifest_path folder) (manifest_path folder)) mid new) (ready : IfSome old (λ c. IsReady folder (held c))) where
      pub has_manifest : HasManifest folder bytes old new
      has_manifest = by old mid new wrote moved ready
        where
          by : (o m n : Option Content) → IsChanged (host.WriteFile (new_manifest_path folder) bytes) o m → IsChanged (host.Rename (new_manifest_path folder) (manifest_path folder)) m n
              → IfSome o (λ c. IsReady folder (held c)) → HasManifest folder bytes o n
          by None None n is then ready = then
          by None (Some m) n is then ready = cc
          by (Some c) None n is then ready = cc
          by (Some c) (Some m) n is then ready =
              then
              ∙ ap (λ (u : Held). Some (changed (host.Rename (new_manifest_path folder) (manifest_path folder)) u)) (same_Some (held m) _ is)
              ∙ ap Some (λ j q. moved_new folder bytes (held c) ready q j)

-- a folder with a new manifest is ready
pub ready_with : (folder : Path) (bytes : List ℕ) (old new : Option Content) → HasManifest folder bytes old new → IfSome old (λ c. IsReady folder (held c)) → IfSome new (λ c. IsReady folder (held c))
ready_with folder bytes old None has ready = tt
ready_with folder bytes None (Some n) has ready = cc
ready_with folder bytes (Some c) (Some n) has ready = subst (λ (u : Held). IsReady folder u) (sym (same_Some (held n) _ has)) (ready_closed folder bytes (held c) ready)

-- ---- the tree is there as before

pub below_tree : (folder path : Path) (t u : Held) → ((y : List ℕ) (s : Path) → same_bytes (codes "manifest") y ≡ false → same_bytes (codes "manifest.new") y ≡ false → u (folder ++ y ∷ s) ≡ t (folder ++ y ∷ s))
    → u (tree_path folder ++ path) ≡ t (tree_path folder ++ path)
below_tree folder path t u same =
    ap u (append_assoc folder (codes "tree" ∷ []) path) ∙ same (codes "tree") path refl refl ∙ ap t (sym (append_assoc folder (codes "tree" ∷ []) path))

pub agrees_with : (folder : Path) (bytes : List ℕ) (files : Files) (old new : Option Content) → HasManifest folder bytes old new → IfSome old (λ c. IsReady folder (held c))
    → IfSome old (λ c. Agrees folder files (held c)) → IfSome new (λ c. Agrees folder files (held c))
agrees_with folder bytes files old None has ready agrees = tt
agrees_with folder bytes files None (Some n) has ready agrees = cc
agrees_with folder bytes files (Some c) (Some n) has ready agrees = λ path.
    ap (λ (u : Held). u (tree_path folder ++ path)) (same_Some (held n) _ has)
    ∙ below_tree folder path (held c) (with_manifest folder bytes (held c)) (beside_both folder bytes (held c) ready)
    ∙ agrees path

pub agrees_but : (folder : Path) (files : Files) (old new : Option Content) → IsSameButNew folder old new → IfSome old (λ c. Agrees folder files (held c)) → IfSome new (λ c. Agrees folder files (held c))
agrees_but folder files old None same agrees = tt
agrees_but folder files None (Some n) same agrees = let no : Some n ≡ None = same in cc
agrees_but folder files (Some c) (Some n) same agrees = λ path.
    below_tree folder path (held c) (held n)
    (λ y s one other. same (folder ++ y ∷ s) (λ e.
    let no : true ≡ false = sym (same_path-refl (new_manifest_path folder)) ∙ ap (same_path (new_manifest_path folder)) (sym e) ∙ apart folder (codes "manifest.new") y [] s other in
    cc))
    ∙ agrees path

-- ---- the two calls, with paths that are spelled

module _ (folder n p m : Path) (text : List ℕ) (old mid : Option Content) (at : n ≡ new_manifest_path folder) (from : p ≡ new_manifest_path folder) (to : m ≡ manifest_path folder)
    (done : IsChanged (host.WriteFile n text) old mid) (ready : IfSome old (λ c. IsReady folder (held c))) where
  wrote_new : IsChanged (host.WriteFile (new_manifest_path folder) text) old mid
  wrote_new = subst (λ (q : Path). IsChanged (host.WriteFile q text) old mid) at done

  pub may_move_as : MayAsk mid (host.Rename p m)
  may_move_as =
      subst (λ (q : Path). MayAsk mid (host.Rename q m)) (sym from)
      (subst (λ (q : Path). MayAsk mid (host.Rename (new_manifest_path folder) q)) (sym to) (may_move folder text old mid wrote_new ready))

  module _ (new : Option Content) where
    pub has_manifest_as : IsChanged (host.Rename p m) mid new → HasManifest folder text old new
    has_manifest_as moved =
        has_manifest folder text old mid wrote_new new
        (subst (λ (q : Path). IsChanged (host.Rename (new_manifest_path folder) q) mid new) to (subst (λ (q : Path). IsChanged (host.Rename q m) mid new) from moved)) ready

    pub kept_as : new ≡ mid → IsSameButNew folder old new
    kept_as same = subst (λ (o : Option Content). IsSameButNew folder old o) (sym same) (same_mid folder text old mid wrote_new)

    pub ready_as : (r : Result (Unit {0}) HostFault) → OnOk r (IsChanged (host.Rename p m) mid new) → OnErr r (new ≡ mid) → IfSome new (λ c. IsReady folder (held c))
    ready_as (Ok x) moved kept = ready_with folder text old new (has_manifest_as moved) ready
    ready_as (Err e) moved kept = subst (λ (o : Option Content). IfSome o (λ c. IsReady folder (held c))) (sym kept) (ready_mid folder text old mid wrote_new ready)

pub agrees_as : (folder : Path) (text : List ℕ) (files : Files) (r : Result (Unit {0}) HostFault) (old new : Option Content)
    → OnOk r (HasManifest folder text old new) → OnErr r (IsSameButNew folder old new) → IfSome old (λ c. IsReady folder (held c))
    → IfSome old (λ c. Agrees folder files (held c)) → IfSome new (λ c. Agrees folder files (held c))
agrees_as folder text files (Ok x) old new has kept ready agrees = agrees_with folder text files old new has ready agrees
agrees_as folder text files (Err e) old new has kept ready agrees = agrees_but folder files old new kept agrees

pub on_err : {A E : Type 0} (r : Result A E) {X Y : Type 0} → (X → Y) → OnErr r X → OnErr r Y
on_err (Ok x) f h = h
on_err (Err e) f h = f h
