-- What a tree in memory is to a host: a content, whose paths have names.
use Rattle.std.specs.Prelude.{◌≡◌, true, false, [], Option, Some, None, is_some, option_map}
use Rattle.std.proofs.Common.{refl, sym, ap, ◌∙◌}
use Rattle.pv_path.specs.Paths.{Path, has_names, parent_of}
use Rattle.pv_steps.specs.declared.node.Kind.TheVariants as kind
use Rattle.pv_steps.specs.Trees.{Files, IsTree, kind_of, places}
use Rattle.pv_folder.specs.Content as host
use Rattle.pv_folder.specs.Content.{Content, HostObject, IsContent, bytes_of, held, listing, listing_of}
use Rattle.pv_folder.specs.Memory.{content_of}
use Rattle.pv_folder.proofs.Seeing.{held_at}
use Rattle.pv_folder.proofs.Changing.{directory_seen, present_at}

module _ (files : Files) (tree : IsTree files) where
  directory_told : (path : Path) → kind_of (places files path) ≡ Some kind.Directory → host.IsDirectory (held (content_of files)) path
  directory_told path is = ap (option_map host.kind_of) (held_at files path ∙ directory_seen (places files path) is)

  pub is_content : IsContent (held (content_of files))
  is_content = record {
    root = directory_told [] tree.root;
    parents = λ path here other. directory_told (parent_of path) (tree.parents path (present_at files path here) other);
    names = λ path here. tree.names path (present_at files path here);
  }

-- at a path that has no names nothing stands
absent_of : (c : Content) → IsContent (held c) → (path : Path) → has_names path ≡ false → held c path ≡ None
absent_of c is path unfit = by (held c path) refl
  where
    by : (o : Option HostObject) → held c path ≡ o → held c path ≡ None
    by None at = at
    by (Some o) at = absurd (let bad : true ≡ false = sym (is.names path (ap is_some at)) ∙ unfit in cc)

pub not_listed_there : (c : Content) → IsContent (held c) → (path : Path) → has_names path ≡ false → None ≡ listing c path
not_listed_there c is path unfit = sym (ap (λ (o : Option HostObject). listing_of c o path) (absent_of c is path unfit))

pub not_read_there : (c : Content) → IsContent (held c) → (path : Path) → has_names path ≡ false → None ≡ bytes_of (held c path)
not_read_there c is path unfit = sym (ap bytes_of (absent_of c is path unfit))
