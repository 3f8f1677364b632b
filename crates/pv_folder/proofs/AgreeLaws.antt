-- Laws of a tree in memory that a host has below a path: what a step asks of the host may be asked, leaves all else there as
-- it is, and leaves the host with what the tree then has.
use Rattle.std.specs.Prelude.{◌≡◌, ◌≢◌, ℕ, Bool, true, false, cond, List, [], ◌∷◌, ◌++◌, Option, Some, None, is_some, option_map}
use Rattle.std.proofs.Common.{refl, sym, ap, subst, ◌∙◌, inl, inr, append_assoc, append-nil}
use Rattle.pv_path.specs.Paths.{Path, has_names, is_prefix, parent_of, rest_under, same_path, same_path-decides}
use Rattle.pv_path.proofs.PathLaws.{has_names-both, not_prefix_not_same, prefix_parts, rest_under-Some}
use Rattle.pv_steps.specs.declared.node.Kind.{Kind}
use Rattle.pv_steps.specs.declared.node.Kind.TheVariants as kind
use Rattle.pv_steps.specs.declared.object.Object.{Object}
use Rattle.pv_steps.specs.declared.step.Step.{Step}
use Rattle.pv_steps.specs.declared.step.Step.TheVariants as step
use Rattle.pv_steps.specs.Objects as objects
use Rattle.pv_steps.specs.Trees.{IsAbsentIn, IsKindIn, IsPresentIn, IsTreeIn, Places, kind_of}
use Rattle.pv_steps.specs.Steps as steps
use Rattle.pv_steps.specs.Steps.{Can, StepFits, after_at}
use Rattle.pv_steps.proofs.TreeLaws.{directory_above, no_rest_no_prefix, not_absent, present_above, present_of_kind}
use Rattle.pv_folder.specs.declared.item.HostKind.TheVariants as named
use Rattle.pv_folder.specs.Content as host
use Rattle.pv_folder.specs.Content.{Change, Held, HostObject, May, changed}
use Rattle.pv_folder.specs.Folders.{real_as, real_of}
use Rattle.pv_folder.specs.Keeping.{change_for, move, removal}
use Rattle.pv_folder.proofs.BelowLaws.{below_some, is_prefix-below, no_rest_below, not_below, not_same_below, parent_of-below, rest_under-below, same_path-below}

-- what a change leaves, if there is one
abbrev pub done : Option Change → Held → Held
done (Some change) u = changed change u
done None u = u

-- the condition of a change, if there is one
abbrev pub MayDo : Held → Option Change → Type 0
MayDo u (Some change) = May u change
MayDo u None = Unit {0}

-- ---- what is real of an object

real_directory : (o : Option Object) → kind_of o ≡ Some kind.Directory → real_of o ≡ Some host.Directory
real_directory None e = cc
real_directory (Some o) e = let is : o.node.kind ≡ kind.Directory = cc in ap (λ (k : Kind). real_as k o.payload) is

real_file : (o : Option Object) → kind_of o ≡ Some kind.File → (bytes : List ℕ) × (real_of o ≡ Some (host.File bytes))
real_file None e = cc
real_file (Some o) e = let is : o.node.kind ≡ kind.File = cc in (o.payload, ap (λ (k : Kind). real_as k o.payload) is)

directory_as : (k : Kind) (payload : List ℕ) → real_as k payload ≡ Some host.Directory → k ≡ kind.Directory
directory_as kind.Directory payload e = refl
directory_as kind.File payload e = cc
directory_as kind.Link payload e = cc
directory_as kind.Fifo payload e = cc
directory_as kind.CharDevice payload e = cc
directory_as kind.BlockDevice payload e = cc

directory_of : (o : Option Object) → real_of o ≡ Some host.Directory → kind_of o ≡ Some kind.Directory
directory_of None e = cc
directory_of (Some o) e = ap Some (directory_as o.node.kind o.payload e)

other_as : (k : Kind) (payload : List ℕ) → real_as k payload ≡ Some host.Other → ⊥
other_as kind.Directory payload e = cc
other_as kind.File payload e = cc
other_as kind.Link payload e = cc
other_as kind.Fifo payload e = cc
other_as kind.CharDevice payload e = cc
other_as kind.BlockDevice payload e = cc

no_other : (o : Option Object) → real_of o ≡ Some host.Other → ⊥
no_other None e = cc
no_other (Some o) e = other_as o.node.kind o.payload e

pub real-mapped : (f : Object → Object) → ((o : Object) → real_as (f o).node.kind (f o).payload ≡ real_as o.node.kind o.payload) → (o : Option Object)
    → real_of (option_map f o) ≡ real_of o
real-mapped f stays None = refl
real-mapped f stays (Some o) = stays o

pub real-on_at : (p : Path) (f : Object → Object) → ((o : Object) → real_as (f o).node.kind (f o).payload ≡ real_as o.node.kind o.payload) → (t : Places) (q : Path)
    → real_of (steps.on_at p f t q) ≡ real_of (t q)
real-on_at p f stays t q =
    elim (same_path p q) as (λ b. real_of (cond b (option_map f (t q)) (t q)) ≡ real_of (t q)) [ true ↦ real-mapped f stays (t q) | false ↦ refl ]

pub real-touched : (now : ℕ) (p : Path) (t : Places) (q : Path) → real_of (steps.touched now p t q) ≡ real_of (t q)
real-touched now p t q = real-on_at (parent_of p) (objects.modified now) (λ o. refl) t q

real-put : (p : Path) (o : Option Object) (t : Places) (q : Path) → real_of (steps.put_at p o t q) ≡ cond (same_path p q) (real_of o) (real_of (t q))
real-put p o t q =
    elim (same_path p q) as (λ b. real_of (cond b o (t q)) ≡ cond b (real_of o) (real_of (t q))) [ true ↦ refl | false ↦ refl ]

pub real-made : (now : ℕ) (p : Path) (o : Object) (t : Places) (q : Path) → real_of (steps.made now p o t q) ≡ cond (same_path p q) (real_of (Some o)) (real_of (t q))
real-made now p o t q = real-touched now p (steps.put_at p (Some o) t) q ∙ real-put p (Some o) t q

pub real-gone : (now : ℕ) (p : Path) (t : Places) (q : Path) → real_of (steps.gone now p t q) ≡ cond (same_path p q) None (real_of (t q))
real-gone now p t q = real-touched now p (steps.put_at p None t) q ∙ real-put p None t q

module _ (top : Path) (t : Places) (u : Held) (agrees : (path : Path) → u (top ++ path) ≡ real_of (t path)) where
  -- ---- what is then there

  put_below : (p : Path) (h : Option HostObject) (q : Path) → host.put_at (top ++ p) h u (top ++ q) ≡ cond (same_path p q) h (real_of (t q))
  put_below p h q = ap (λ b. cond b h (u (top ++ q))) (same_path-below top p q) ∙ ap (cond (same_path p q) h) (agrees q)

  -- where nothing real stands, nothing need go
  put_none : (p q : Path) → real_of (t p) ≡ None → real_of (t q) ≡ cond (same_path p q) None (real_of (t q))
  put_none p q none =
      elim (same_path p q) as (λ b. same_path p q ≡ b → real_of (t q) ≡ cond b None (real_of (t q))) [
        | true ↦ λ e. ap (λ (r : Path). real_of (t r)) (sym ((same_path-decides p q).0 e)) ∙ none
        | false ↦ λ e. refl
      ] refl

  removed_below : (p : Path) (r : Option HostObject) → real_of (t p) ≡ r → (kind_of (t p) ≡ Some kind.Directory → ⊥) → (q : Path)
      → done (removal (top ++ p) r) u (top ++ q) ≡ cond (same_path p q) None (real_of (t q))
  removed_below p (Some (host.File bytes)) e never q = put_below p None q
  removed_below p (Some host.Directory) e never q = absurd (never (directory_of (t p) e))
  removed_below p (Some host.Other) e never q = absurd (no_other (t p) e)
  removed_below p None e never q = agrees q ∙ put_none p q e

  moved_below : (from to : Path) (now : ℕ) (q : Path) → changed (host.Rename (top ++ from) (top ++ to)) u (top ++ q) ≡ real_of (steps.moved now from to t q)
  moved_below from to now q = ap (host.moved_at (top ++ from) u (top ++ q)) (rest_under-below top to q) ∙ by (rest_under to q)
    where
      left : (b : Bool) → cond b None (u (top ++ q)) ≡ real_of (cond b None (steps.touched now from (steps.touched now to t) q))
      left true = refl
      left false = agrees q ∙ sym (real-touched now from (steps.touched now to t) q ∙ real-touched now to t q)

      by : (rest : Option Path) → host.moved_at (top ++ from) u (top ++ q) rest ≡ real_of (steps.moved_at now from to t q rest)
      by None = ap (λ b. cond b None (u (top ++ q))) (is_prefix-below top from q) ∙ left (is_prefix from q)
      by (Some []) = ap u (append-nil (top ++ from)) ∙ agrees from ∙ sym (real-mapped (objects.changed now) (λ o. refl) (t from))
      by (Some (name ∷ rest)) = ap u (append_assoc top from (name ∷ rest)) ∙ agrees (from ++ name ∷ rest)

  written_below : (p : Path) (content : List ℕ) (now : ℕ) → IsKindIn kind.File t p → (q : Path)
      → host.put_at (top ++ p) (Some (host.File content)) u (top ++ q) ≡ real_of (steps.on_at p (objects.with_content content now) t q)
  written_below p content now is q = put_below p (Some (host.File content)) q ∙ by (same_path p q) refl
    where
      written : (o : Option Object) → kind_of o ≡ Some kind.File → Some (host.File content) ≡ real_of (option_map (objects.with_content content now) o)
      written None e = cc
      written (Some o) e = let file : o.node.kind ≡ kind.File = cc in ap (λ (k : Kind). real_as k content) (sym file)

      by : (b : Bool) → same_path p q ≡ b → cond b (Some (host.File content)) (real_of (t q)) ≡ real_of (cond b (option_map (objects.with_content content now) (t q)) (t q))
      by true e = written (t q) (ap (λ (r : Path). kind_of (t r)) (sym ((same_path-decides p q).0 e)) ∙ is)
      by false e = refl

  module _ (tree : IsTreeIn t) where
    -- nothing lies below what is not a directory
    nothing_below : (p : Path) → (kind_of (t p) ≡ Some kind.Directory → ⊥) → (name : List ℕ) (rest : Path) → t (p ++ name ∷ rest) ≡ None
    nothing_below p never name rest = by (t (p ++ name ∷ rest)) refl
      where
        by : (o : Option Object) → t (p ++ name ∷ rest) ≡ o → t (p ++ name ∷ rest) ≡ None
        by None e = e
        by (Some o) e = absurd (never (directory_above t tree p name rest (ap is_some e)))

    unreal : (p : Path) → real_of (t p) ≡ None → kind_of (t p) ≡ Some kind.Directory → ⊥
    unreal p none is = let no : None ≡ Some host.Directory = sym none ∙ real_directory (t p) is in cc

    -- something that the host does not have takes the place of what is not a directory
    replaced : (from to : Path) (now : ℕ) → real_of (t from) ≡ None → (kind_of (t to) ≡ Some kind.Directory → ⊥) → (q : Path)
        → cond (same_path to q) None (real_of (t q)) ≡ real_of (steps.moved now from to t q)
    replaced from to now none never q = by (rest_under to q) refl
      where
        nothing_under : (q : Path) → is_prefix from q ≡ true → real_of (t q) ≡ None
        nothing_under q e = under (prefix_parts from q e)
          where
            under : (r : Path) × (q ≡ from ++ r) → real_of (t q) ≡ None
            under ([], is) = ap (λ (p : Path). real_of (t p)) (is ∙ append-nil from) ∙ none
            under (name ∷ rest, is) = ap (λ (p : Path). real_of (t p)) is ∙ ap real_of (nothing_below from (unreal from none) name rest)

        left : (b : Bool) → is_prefix from q ≡ b → real_of (t q) ≡ real_of (cond b None (steps.touched now from (steps.touched now to t) q))
        left true e = nothing_under q e
        left false e = sym (real-touched now from (steps.touched now to t) q ∙ real-touched now to t q)

        either : (b : Bool) → real_of (t q) ≡ None → cond b None (real_of (t q)) ≡ None
        either true e = refl
        either false e = e

        by : (rest : Option Path) → rest_under to q ≡ rest → cond (same_path to q) None (real_of (t q)) ≡ real_of (steps.moved_at now from to t q rest)
        by None e =
            ap (λ b. cond b None (real_of (t q))) (not_prefix_not_same to q (no_rest_no_prefix to q e)) ∙ left (is_prefix from q) refl
        by (Some []) e =
            let at : to ≡ q = sym (rest_under-Some to q [] e ∙ append-nil to) in
            ap (λ b. cond b None (real_of (t q))) ((same_path-decides to q).1 at) ∙ sym (real-mapped (objects.changed now) (λ o. refl) (t from) ∙ none)
        by (Some (name ∷ rest)) e =
            let at : real_of (t q) ≡ None = ap (λ (p : Path). real_of (t p)) (rest_under-Some to q (name ∷ rest) e) ∙ ap real_of (nothing_below to never name rest) in
            either (same_path to q) at ∙ sym (ap real_of (nothing_below from (unreal from none) name rest))

    -- what gives way to something that is not a directory is none
    no_directory : (from to : Path) → real_of (t from) ≡ None → steps.Yields t from to → kind_of (t to) ≡ Some kind.Directory → ⊥
    no_directory from to none (steps.absent h) is = let no : None ≡ Some kind.Directory = sym (ap kind_of h) ∙ is in cc
    no_directory from to none (steps.objects f h) is = h.1 is
    no_directory from to none (steps.directories f h e) is = unreal from none f

    -- the host then has what the tree then has
    pub agrees_after : (s : Step) (now : ℕ) → Can t s → (q : Path) → done (change_for top t s) u (top ++ q) ≡ real_of (after_at t s now q)
    agrees_after (step.MakeDir p) now can q = put_below p (Some host.Directory) q ∙ sym (real-made now p (objects.fresh kind.Directory 0o700 [] 0 0 now) t q)
    agrees_after (step.MakeFile p) now can q = put_below p (Some (host.File [])) q ∙ sym (real-made now p (objects.fresh kind.File 0o600 [] 0 0 now) t q)
    agrees_after (step.MakeFifo p) now can q =
        agrees q ∙ put_none p q (ap real_of can.0) ∙ sym (real-made now p (objects.fresh kind.Fifo 0o600 [] 0 0 now) t q)
    agrees_after (step.MakeDevice p true major minor) now can q =
        agrees q ∙ put_none p q (ap real_of can.0) ∙ sym (real-made now p (objects.fresh kind.BlockDevice 0o600 [] major minor now) t q)
    agrees_after (step.MakeDevice p false major minor) now can q =
        agrees q ∙ put_none p q (ap real_of can.0) ∙ sym (real-made now p (objects.fresh kind.CharDevice 0o600 [] major minor now) t q)
    agrees_after (step.MakeLink p target) now can q =
        agrees q ∙ put_none p q (ap real_of can.0.0) ∙ sym (real-made now p (objects.fresh kind.Link 0o777 target 0 0 now) t q)
    agrees_after (step.Write p content) now can q = written_below p content now can q
    agrees_after (step.SetMode p mode) now can q = agrees q ∙ sym (real-on_at p (objects.with_mode mode now) (λ o. refl) t q)
    agrees_after (step.SetOwner p uid gid) now can q = agrees q ∙ sym (real-on_at p (objects.with_owner uid gid now) (λ o. refl) t q)
    agrees_after (step.SetAcl p acl) now can q = agrees q ∙ sym (real-on_at p (objects.with_acl acl now) (λ o. refl) t q)
    agrees_after (step.SetAttrs p attrs) now can q = agrees q ∙ sym (real-on_at p (objects.with_attrs attrs now) (λ o. refl) t q)
    agrees_after (step.SetLetters p letters) now can q = agrees q ∙ sym (real-on_at p (objects.with_letters letters now) (λ o. refl) t q)
    agrees_after (step.SetStamps p access modify) now can q = agrees q ∙ sym (real-on_at p (objects.with_stamps access modify now) (λ o. refl) t q)
    agrees_after (step.Rename from to) now can q = by (real_of (t from)) refl
      where
        by : (r : Option HostObject) → real_of (t from) ≡ r → done (move (top ++ from) (top ++ to) r (real_of (t to))) u (top ++ q) ≡ real_of (steps.moved now from to t q)
        by (Some o) e = moved_below from to now q
        by None e =
            let never = no_directory from to e can.yields in
            removed_below to (real_of (t to)) refl never q ∙ replaced from to now e never q
    agrees_after (step.Unlink p) now can q = removed_below p (real_of (t p)) refl can.1 q ∙ sym (real-gone now p t q)
    agrees_after (step.RemoveDir p) now can q = put_below p None q ∙ sym (real-gone now p t q)

    -- ---- what may be asked

    module _ (names : has_names top ≡ true) where
      directory_at : (p : Path) → IsKindIn kind.Directory t p → host.IsDirectory u (top ++ p)
      directory_at p h = ap (option_map host.kind_of) (agrees p ∙ real_directory (t p) h)

      absent_at : (p : Path) → IsAbsentIn t p → host.IsAbsent u (top ++ p)
      absent_at p h = agrees p ∙ ap real_of h

      file_at : (p : Path) → IsKindIn kind.File t p → host.IsFile u (top ++ p)
      file_at p h = ap (option_map host.kind_of) (agrees p ∙ (real_file (t p) h).1)

      real_at : (p : Path) (o : HostObject) → real_of (t p) ≡ Some o → u (top ++ p) ≡ Some o
      real_at p o e = agrees p ∙ e

      -- a path lies in a directory of the host where it lies in one of the tree
      place_at : (p : Path) → p ≢ [] → has_names p ≡ true → IsKindIn kind.Directory t (parent_of p) → host.HasPlace u (top ++ p)
      place_at p some named h =
          (subst (λ (r : Path). host.IsDirectory u r) (sym (parent_of-below top p some)) (directory_at (parent_of p) h), has_names-both top p names named)

      absent_some : (p : Path) → IsAbsentIn t p → p ≢ []
      absent_some p h e = not_absent t [] (present_of_kind t [] kind.Directory tree.root) (ap t (sym e) ∙ h)

      file_some : (p : Path) → IsKindIn kind.File t p → p ≢ []
      file_some p h e = let no : Some kind.Directory ≡ Some kind.File = sym tree.root ∙ ap (λ (r : Path). kind_of (t r)) (sym e) ∙ h in cc

      -- the root gives way to nothing
      to_some : (from to : Path) → steps.Movable t from to → to ≢ []
      to_some from to can e = by can.yields
        where
          by : steps.Yields t from to → ⊥
          by (steps.absent h) = absent_some to h e
          by (steps.objects f h) = h.1 (ap (λ (r : Path). kind_of (t r)) e ∙ tree.root)
          by (steps.directories f h empty) = front from refl
            where
              front : (p : Path) → from ≡ p → ⊥
              front [] is = can.no_root is
              front (name ∷ rest) is =
                  let there : IsPresentIn t ((name ∷ []) ++ rest) = subst (λ (p : Path). IsPresentIn t p) is can.present in
                  not_absent t (name ∷ []) (present_above t tree (name ∷ []) rest there) (ap (λ (p : Path). t (p ++ name ∷ [])) (sym e) ∙ empty name)

      present_at : (p : Path) (o : HostObject) → real_of (t p) ≡ Some o → host.IsPresent u (top ++ p)
      present_at p o e = ap is_some (real_at p o e)

      no_directory_at : (p : Path) (o : HostObject) → real_of (t p) ≡ Some o → (kind_of (t p) ≡ Some kind.Directory → ⊥) → host.IsNoDirectory u (top ++ p)
      no_directory_at p o e never = (present_at p o e, λ is. never (directory_of (t p) (e ∙ directory_object o (ap (option_map host.kind_of) (sym (real_at p o e)) ∙ is))))
        where
          directory_object : (o : HostObject) → Some (host.kind_of o) ≡ Some named.Directory → Some o ≡ Some host.Directory
          directory_object host.Directory e = refl
          directory_object (host.File bytes) e = cc
          directory_object host.Other e = cc

      yields_at : (from to : Path) (o : HostObject) → real_of (t from) ≡ Some o → steps.Yields t from to → host.Yields u (top ++ from) (top ++ to)
      yields_at from to o e (steps.absent h) = host.absent (absent_at to h)
      yields_at from to o e (steps.objects f h) = by (real_of (t to)) refl
        where
          by : (r : Option HostObject) → real_of (t to) ≡ r → host.Yields u (top ++ from) (top ++ to)
          by None none = host.absent (agrees to ∙ none)
          by (Some x) some = host.objects (no_directory_at from o e f.1) (no_directory_at to x some h.1)
      yields_at from to o e (steps.directories f h empty) =
          host.directories (directory_at from f) (directory_at to h) (λ name. ap u (append_assoc top to (name ∷ [])) ∙ absent_at (to ++ name ∷ []) (empty name))

      may_remove : (p : Path) (r : Option HostObject) → real_of (t p) ≡ r → MayDo u (removal (top ++ p) r)
      may_remove p (Some (host.File bytes)) e = ap (option_map host.kind_of) (real_at p (host.File bytes) e)
      may_remove p (Some host.Directory) e = tt
      may_remove p (Some host.Other) e = tt
      may_remove p None e = tt

      pub may_ask : (s : Step) → Can t s → StepFits s → MayDo u (change_for top t s)
      may_ask (step.MakeDir p) can fits = (absent_at p can.0, place_at p (absent_some p can.0) fits can.1)
      may_ask (step.MakeFile p) can fits = (inl (absent_at p can.0), place_at p (absent_some p can.0) fits can.1)
      may_ask (step.Write p content) can fits =
          (inr (file_at p can), place_at p (file_some p can) fits.0 (tree.parents p (present_of_kind t p kind.File can) (file_some p can)))
      may_ask (step.Rename from to) can fits = by (real_of (t from)) refl
        where
          by : (r : Option HostObject) → real_of (t from) ≡ r → MayDo u (move (top ++ from) (top ++ to) r (real_of (t to)))
          by (Some o) e = record {
            present = present_at from o e;
            no_root = below_some top from can.no_root;
            outside = is_prefix-below top from to ∙ can.outside;
            place = place_at to (to_some from to can) fits.1 can.parent;
            yields = yields_at from to o e can.yields;
          }
          by None e = may_remove to (real_of (t to)) refl
      may_ask (step.Unlink p) can fits = may_remove p (real_of (t p)) refl
      may_ask (step.RemoveDir p) can fits =
          (directory_at p can.0, ((λ name. ap u (append_assoc top p (name ∷ [])) ∙ absent_at (p ++ name ∷ []) (can.1.0 name)), below_some top p can.1.1))
      may_ask (step.MakeFifo p) can fits = tt
      may_ask (step.MakeDevice p block major minor) can fits = tt
      may_ask (step.MakeLink p target) can fits = tt
      may_ask (step.SetMode p mode) can fits = tt
      may_ask (step.SetOwner p uid gid) can fits = tt
      may_ask (step.SetAcl p acl) can fits = tt
      may_ask (step.SetAttrs p attrs) can fits = tt
      may_ask (step.SetLetters p letters) can fits = tt
      may_ask (step.SetStamps p access modify) can fits = tt

-- ---- what stays as it is

module _ (top : Path) (t : Places) (u : Held) (q : Path) (out : is_prefix top q ≡ false) where
  put_outside : (p : Path) (h : Option HostObject) → host.put_at (top ++ p) h u q ≡ u q
  put_outside p h = ap (λ b. cond b h (u q)) (not_same_below top p q out)

  removed_outside : (p : Path) (r : Option HostObject) → done (removal (top ++ p) r) u q ≡ u q
  removed_outside p (Some (host.File bytes)) = put_outside p None
  removed_outside p (Some host.Directory) = refl
  removed_outside p (Some host.Other) = refl
  removed_outside p None = refl

  moved_outside : (from to : Path) → changed (host.Rename (top ++ from) (top ++ to)) u q ≡ u q
  moved_outside from to = ap (host.moved_at (top ++ from) u q) (no_rest_below top to q out) ∙ ap (λ b. cond b None (u q)) (not_below top from q out)

  pub same_elsewhere : (s : Step) → done (change_for top t s) u q ≡ u q
  same_elsewhere (step.MakeDir p) = put_outside p (Some host.Directory)
  same_elsewhere (step.MakeFile p) = put_outside p (Some (host.File []))
  same_elsewhere (step.Write p content) = put_outside p (Some (host.File content))
  same_elsewhere (step.Rename from to) = by (real_of (t from))
    where
      by : (r : Option HostObject) → done (move (top ++ from) (top ++ to) r (real_of (t to))) u q ≡ u q
      by (Some o) = moved_outside from to
      by None = removed_outside to (real_of (t to))
  same_elsewhere (step.Unlink p) = removed_outside p (real_of (t p))
  same_elsewhere (step.RemoveDir p) = put_outside p None
  same_elsewhere (step.MakeFifo p) = refl
  same_elsewhere (step.MakeDevice p block major minor) = refl
  same_elsewhere (step.MakeLink p target) = refl
  same_elsewhere (step.SetMode p mode) = refl
  same_elsewhere (step.SetOwner p uid gid) = refl
  same_elsewhere (step.SetAcl p acl) = refl
  same_elsewhere (step.SetAttrs p attrs) = refl
  same_elsewhere (step.SetLetters p letters) = refl
  same_elsewhere (step.SetStamps p access modify) = refl
