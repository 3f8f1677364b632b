-- What steps of a tree in memory are to a host, path by path.
use Rattle.std.specs.Prelude.{◌≡◌, ℕ, Bool, true, false, List, [], ◌∷◌, ◌++◌, Option, Some, None, is_some, option_map, if◌then◌else◌}
use Rattle.std.proofs.Common.{refl, sym, ap, ◌∙◌, append-nil, inl, inr}
use Rattle.pv_path.specs.Paths.{Path, is_prefix, parent_of, rest_under, same_path, same_path-decides}
use Rattle.pv_path.proofs.PathLaws.{same_path-refl}
use Rattle.pv_steps.proofs.TreeLaws.{kind_of-touched}
use Rattle.pv_steps.specs.declared.node.Kind.{Kind}
use Rattle.pv_steps.specs.declared.node.Kind.TheVariants as kind
use Rattle.pv_steps.specs.declared.object.Object.{Object}
use Rattle.pv_steps.specs.declared.step.Step.{Step}
use Rattle.pv_steps.specs.declared.step.Step.TheVariants as step
use Rattle.pv_steps.specs.Objects as objects
use Rattle.pv_steps.specs.Trees as trees
use Rattle.pv_steps.specs.Trees.{Files, Places, places, kind_of}
use Rattle.pv_steps.specs.Steps as steps
use Rattle.pv_steps.specs.Steps.{Can, after_at}
use Rattle.pv_folder.specs.declared.item.HostKind.{HostKind}
use Rattle.pv_folder.specs.declared.item.HostKind.TheVariants as named
use Rattle.pv_folder.specs.Content as host
use Rattle.pv_folder.specs.Content.{Change, Content, Held, HostObject, May, bytes_of, changed, held, kind_at, listing, listing_of, moved_at, put_at}
use Rattle.pv_folder.specs.Memory.{Becomes, content_of, seen, seen_as}
use Rattle.pv_folder.proofs.Seeing.{held_at, held_seen, seen_in}

-- ---- kinds

pub directory_seen : (o : Option Object) → kind_of o ≡ Some kind.Directory → option_map seen o ≡ Some host.Directory
directory_seen None e = cc
directory_seen (Some o) e =
    let is : o.node.kind ≡ kind.Directory = cc in
    ap (λ (k : Kind). Some (seen_as k o.payload)) is

-- the kind of what a host sees tells the kind of the object there
from_content : (k : Kind) (payload : List ℕ) → host.kind_of (seen_as k payload) ≡ named.Directory → k ≡ kind.Directory
from_content kind.Directory payload e = refl
from_content kind.File payload e = cc
from_content kind.Link payload e = cc
from_content kind.Fifo payload e = cc
from_content kind.CharDevice payload e = cc
from_content kind.BlockDevice payload e = cc

told_file : (k : Kind) (payload : List ℕ) → host.kind_of (seen_as k payload) ≡ named.File → k ≡ kind.File
told_file kind.Directory payload e = cc
told_file kind.File payload e = refl
told_file kind.Link payload e = cc
told_file kind.Fifo payload e = cc
told_file kind.CharDevice payload e = cc
told_file kind.BlockDevice payload e = cc

directory_back : (o : Option Object) → option_map host.kind_of (option_map seen o) ≡ Some named.Directory → kind_of o ≡ Some kind.Directory
directory_back None e = cc
directory_back (Some o) e =
    let is : host.kind_of (seen_as o.node.kind o.payload) ≡ named.Directory = cc in
    ap Some (from_content o.node.kind o.payload is)

file_back : (o : Option Object) → option_map host.kind_of (option_map seen o) ≡ Some named.File → kind_of o ≡ Some kind.File
file_back None e = cc
file_back (Some o) e =
    let is : host.kind_of (seen_as o.node.kind o.payload) ≡ named.File = cc in
    ap Some (told_file o.node.kind o.payload is)

absent_back : (o : Option Object) → option_map seen o ≡ None → o ≡ None
absent_back None e = refl
absent_back (Some o) e = cc

present_seen : (o : Option Object) → is_some (option_map seen o) ≡ is_some o
present_seen None = refl
present_seen (Some o) = refl

-- ---- what is told of a path

pub listing_there : (files : Files) (path : Path) → trees.IsKind kind.Directory files path → Some (host.items_in (content_of files) path) ≡ listing (content_of files) path
listing_there files path is =
    ap (λ (o : Option HostObject). listing_of (content_of files) o path) (sym (held_at files path ∙ directory_seen (places files path) is))

not_listed : (c : Content) (path : Path) (k : Kind) (payload : List ℕ) → (Some k ≡ Some kind.Directory → ⊥) → None ≡ listing_of c (Some (seen_as k payload)) path
not_listed c path kind.Directory payload never = absurd (never refl)
not_listed c path kind.File payload never = refl
not_listed c path kind.Link payload never = refl
not_listed c path kind.Fifo payload never = refl
not_listed c path kind.CharDevice payload never = refl
not_listed c path kind.BlockDevice payload never = refl

pub listing_none : (files : Files) (path : Path) → (trees.IsKind kind.Directory files path → ⊥) → None ≡ listing (content_of files) path
listing_none files path never =
    by (places files path) never ∙ ap (λ (o : Option HostObject). listing_of (content_of files) o path) (sym (held_at files path))
  where
    by : (o : Option Object) → (kind_of o ≡ Some kind.Directory → ⊥) → None ≡ listing_of (content_of files) (option_map seen o) path
    by None never = refl
    by (Some o) never = not_listed (content_of files) path o.node.kind o.payload never

pub bytes_there : (files : Files) (path : Path) → trees.IsKind kind.File files path → trees.payload_at files path ≡ bytes_of (held (content_of files) path)
bytes_there files path is = by (places files path) is ∙ ap bytes_of (sym (held_at files path))
  where
    by : (o : Option Object) → kind_of o ≡ Some kind.File → option_map (λ (x : Object). x.payload) o ≡ bytes_of (option_map seen o)
    by None e = cc
    by (Some o) e =
        let is : o.node.kind ≡ kind.File = cc in
        ap (λ (k : Kind). bytes_of (Some (seen_as k o.payload))) (sym is)

no_bytes : (k : Kind) (payload : List ℕ) → (Some k ≡ Some kind.File → ⊥) → None ≡ bytes_of (Some (seen_as k payload))
no_bytes kind.Directory payload never = refl
no_bytes kind.File payload never = absurd (never refl)
no_bytes kind.Link payload never = refl
no_bytes kind.Fifo payload never = refl
no_bytes kind.CharDevice payload never = refl
no_bytes kind.BlockDevice payload never = refl

pub bytes_none : (files : Files) (path : Path) → (trees.IsKind kind.File files path → ⊥) → None ≡ bytes_of (held (content_of files) path)
bytes_none files path never = by (places files path) never ∙ ap bytes_of (sym (held_at files path))
  where
    by : (o : Option Object) → (kind_of o ≡ Some kind.File → ⊥) → None ≡ bytes_of (option_map seen o)
    by None never = refl
    by (Some o) never = no_bytes o.node.kind o.payload never

-- ---- what changes

seen-on_at : (path : Path) (f : Object → Object) → ((o : Object) → seen (f o) ≡ seen o) → (t : Places) → seen_in (steps.on_at path f t) ≡ seen_in t
seen-on_at path f same t = λ j q. by (same_path path q) (t q) j
  where
    by : (b : Bool) (o : Option Object) → option_map seen (if b then option_map f o else o) ≡ option_map seen o
    by true None = refl
    by true (Some o) = ap Some (same o)
    by false o = refl

seen-touched : (now : ℕ) (path : Path) (t : Places) → seen_in (steps.touched now path t) ≡ seen_in t
seen-touched now path t = seen-on_at (parent_of path) (objects.modified now) (λ o. refl) t

seen-put : (path : Path) (o : Option Object) (t : Places) → seen_in (steps.put_at path o t) ≡ put_at path (option_map seen o) (seen_in t)
seen-put path o t = λ j q. by (same_path path q) q j
  where
    by : (b : Bool) (q : Path) → option_map seen (if b then o else t q) ≡ (if b then option_map seen o else option_map seen (t q))
    by true q = refl
    by false q = refl

seen-made : (now : ℕ) (path : Path) (o : Object) (t : Places) → seen_in (steps.made now path o t) ≡ put_at path (Some (seen o)) (seen_in t)
seen-made now path o t = seen-touched now path (steps.put_at path (Some o) t) ∙ seen-put path (Some o) t

seen-gone : (now : ℕ) (path : Path) (t : Places) → seen_in (steps.gone now path t) ≡ put_at path None (seen_in t)
seen-gone now path t = seen-touched now path (steps.put_at path None t) ∙ seen-put path None t

seen-moved : (now : ℕ) (from to : Path) (t : Places) → seen_in (steps.moved now from to t) ≡ (λ q. moved_at from (seen_in t) q (rest_under to q))
seen-moved now from to t = λ j q. by q (rest_under to q) j
  where
    same : (o : Option Object) → option_map seen (option_map (objects.changed now) o) ≡ option_map seen o
    same None = refl
    same (Some o) = refl

    left : (q : Path) (b : Bool) → option_map seen (if b then None else steps.touched now from (steps.touched now to t) q) ≡ (if b then None else seen_in t q)
    left q true = refl
    left q false = λ j. (seen-touched now from (steps.touched now to t) ∙ seen-touched now to t) j q

    by : (q : Path) (rest : Option Path) → option_map seen (steps.moved_at now from to t q rest) ≡ moved_at from (seen_in t) q rest
    by q None = left q (is_prefix from q)
    by q (Some []) = same (t from) ∙ ap (seen_in t) (sym (append-nil from))
    by q (Some (name ∷ rest)) = refl

seen-written : (now : ℕ) (path : Path) (content : List ℕ) (t : Places) → trees.IsKindIn kind.File t path
    → seen_in (steps.on_at path (objects.with_content content now) t) ≡ put_at path (Some (host.File content)) (seen_in t)
seen-written now path content t is = λ j q. by q (same_path path q) refl j
  where
    written : (o : Option Object) → kind_of o ≡ Some kind.File → option_map seen (option_map (objects.with_content content now) o) ≡ Some (host.File content)
    written None e = cc
    written (Some o) e =
        let file : o.node.kind ≡ kind.File = cc in
        ap (λ (k : Kind). Some (seen_as k content)) file

    by : (q : Path) (b : Bool) → same_path path q ≡ b
        → option_map seen (if b then option_map (objects.with_content content now) (t q) else t q) ≡ (if b then Some (host.File content) else option_map seen (t q))
    by q true e =
        let at : path ≡ q = (same_path-decides path q).0 e in
        written (t q) (ap (λ p. kind_of (t p)) (sym at) ∙ is)
    by q false e = refl

-- ---- the changes of a host

module _ (old : Files) where
  t : Places
  t = places old

  back : (new : Files) (step : Step) (change : Change) → places new ≡ after_at (places old) step 0 → seen_in (after_at (places old) step 0) ≡ changed change (seen_in (places old)) → Becomes change old new
  back new step change after same =
      held_seen new ∙ ap seen_in after ∙ same ∙ ap (changed change) (sym (held_seen old))

  pub dir_made : (new : Files) (path : Path) → places new ≡ after_at (places old) (step.MakeDir path) 0 → Becomes (host.MakeDir path) old new
  dir_made new path after = back new (step.MakeDir path) (host.MakeDir path) after (seen-made 0 path (objects.fresh kind.Directory 0o700 [] 0 0 0) (places old))

  pub moved_on : (new : Files) (from to : Path) → places new ≡ after_at (places old) (step.Rename from to) 0 → Becomes (host.Rename from to) old new
  moved_on new from to after = back new (step.Rename from to) (host.Rename from to) after (seen-moved 0 from to (places old))

  pub file_gone : (new : Files) (path : Path) → places new ≡ after_at (places old) (step.Unlink path) 0 → Becomes (host.RemoveFile path) old new
  file_gone new path after = back new (step.Unlink path) (host.RemoveFile path) after (seen-gone 0 path (places old))

  pub dir_gone : (new : Files) (path : Path) → places new ≡ after_at (places old) (step.RemoveDir path) 0 → Becomes (host.RemoveDir path) old new
  dir_gone new path after = back new (step.RemoveDir path) (host.RemoveDir path) after (seen-gone 0 path (places old))

  pub rewritten : (new : Files) (path : Path) (content : List ℕ) → trees.IsKind kind.File old path → places new ≡ after_at (places old) (step.Write path content) 0 → Becomes (host.WriteFile path content) old new
  rewritten new path content is after = back new (step.Write path content) (host.WriteFile path content) after (seen-written 0 path content (places old) is)

  pub file_made : (new : Files) (path : Path) → places new ≡ after_at (places old) (step.MakeFile path) 0 → Becomes (host.WriteFile path []) old new
  file_made new path after = back new (step.MakeFile path) (host.WriteFile path []) after (seen-made 0 path (objects.fresh kind.File 0o600 [] 0 0 0) (places old))

  -- ---- what a host may ask for can be done

  absent_at : (path : Path) → host.IsAbsent (held (content_of old)) path → trees.IsAbsentIn (places old) path
  absent_at path h = absent_back (places old path) (sym (held_at old path) ∙ h)

  directory_at : (path : Path) → host.IsDirectory (held (content_of old)) path → trees.IsKindIn kind.Directory (places old) path
  directory_at path h = directory_back (places old path) (ap (option_map host.kind_of) (sym (held_at old path)) ∙ h)

  file_at : (path : Path) → host.IsFile (held (content_of old)) path → trees.IsKindIn kind.File (places old) path
  file_at path h = file_back (places old path) (ap (option_map host.kind_of) (sym (held_at old path)) ∙ h)

  pub present_at : (path : Path) → host.IsPresent (held (content_of old)) path → trees.IsPresentIn (places old) path
  present_at path h = sym (present_seen (places old path)) ∙ ap is_some (sym (held_at old path)) ∙ h

  no_directory_at : (path : Path) → host.IsNoDirectory (held (content_of old)) path → steps.IsOther kind.Directory (places old) path
  no_directory_at path h = (present_at path h.0, λ is. h.1 (ap (option_map host.kind_of) (held_at old path ∙ directory_seen (places old path) is)))

  pub can_make : (path : Path) → May (held (content_of old)) (host.MakeDir path) → steps.HasRoom (places old) path
  can_make path h = (absent_at path h.0, directory_at (parent_of path) h.1.0)

  can_yield : (from to : Path) → host.Yields (held (content_of old)) from to → steps.Yields (places old) from to
  can_yield from to (host.absent h) = steps.absent (absent_at to h)
  can_yield from to (host.objects h k) = steps.objects (no_directory_at from h) (no_directory_at to k)
  can_yield from to (host.directories h k e) = steps.directories (directory_at from h) (directory_at to k) (λ name. absent_at (to ++ name ∷ []) (e name))

  pub can_move : (from to : Path) → May (held (content_of old)) (host.Rename from to) → steps.Movable (places old) from to
  can_move from to h = record {
    present = present_at from h.present;
    no_root = h.no_root;
    outside = h.outside;
    parent = directory_at (parent_of to) h.place.0;
    yields = can_yield from to h.yields;
  }

  pub can_unlink : (path : Path) → May (held (content_of old)) (host.RemoveFile path) → steps.IsOther kind.Directory (places old) path
  can_unlink path h = by (places old path) (file_at path h)
    where
      by : (o : Option Object) → kind_of o ≡ Some kind.File → (is_some o ≡ true) × (kind_of o ≡ Some kind.Directory → ⊥)
      by None e = absurd (let no : None ≡ Some kind.File = e in cc)
      by (Some o) e = (refl, λ is. let no : Some kind.File ≡ Some kind.Directory = sym e ∙ is in cc)

  pub can_remove : (path : Path) → May (held (content_of old)) (host.RemoveDir path) → Can (places old) (step.RemoveDir path)
  can_remove path h = (directory_at path h.0, (λ name. absent_at (path ++ name ∷ []) (h.1.0 name), h.1.1))

  -- a file is written if there is room for one, or where one is
  pub room_for : (path : Path) (content : List ℕ) → May (held (content_of old)) (host.WriteFile path content) → (trees.IsKind kind.File old path → ⊥) → steps.HasRoom (places old) path
  room_for path content (inl h, place) never = (absent_at path h, directory_at (parent_of path) place.0)
  room_for path content (inr h, place) never = absurd (never (file_at path h))

  -- what a host tells of is there
  pub kind_there : (t : Held) (path : Path) (k : HostKind) → kind_at t path ≡ Some k → host.IsPresent t path
  kind_there t path k = by (t path)
    where
      by : (o : Option HostObject) → option_map host.kind_of o ≡ Some k → is_some o ≡ true
      by None e = cc
      by (Some o) e = refl

  pub file_there : (new : Files) (path : Path) → places new ≡ after_at (places old) (step.MakeFile path) 0 → trees.IsKind kind.File new path
  file_there new path after =
      ap (λ (u : Places). kind_of (u path)) after
      ∙ kind_of-touched 0 path (steps.put_at path (Some (objects.fresh kind.File 0o600 [] 0 0 0)) (places old)) path
      ∙ ap (λ b. kind_of (if b then Some (objects.fresh kind.File 0o600 [] 0 0 0) else places old path)) (same_path-refl path)
