-- Listings of directories: items in byte order of their names (readdir(3)).
use Rattle.std.specs.Prelude.{Bool, List}
use Rattle.std.specs.Ordering.{is_lt}
use Rattle.pv_path.specs.Names.{name_cmp}
use Rattle.pv_acl.specs.Ordered.{all_before_by, is_ordered_by}
use Rattle.pv_folder.specs.declared.item.HostItem.{HostItem}

-- Whether the name of an item comes before that of another, by bytes.
abbrev pub comes_before : HostItem → HostItem → Bool
comes_before x y = is_lt (name_cmp x.name y.name)

-- Whether each of some items comes before this one.
abbrev pub all_before : List HostItem → HostItem → Bool
all_before = all_before_by comes_before

-- Whether items are in order, with each name at most once.
abbrev pub is_ordered : List HostItem → Bool
is_ordered = is_ordered_by comes_before
