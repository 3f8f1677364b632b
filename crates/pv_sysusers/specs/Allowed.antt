-- Lines of which all is allowed, and owners that are IDs (sysusers.d(5), "Name", "ID").
use Rattle.std.specs.Prelude.{◌≡◌, Bool, true, ◌&&◌, Option, Some, None}
use Rattle.pv_acl.specs.NamedEntries.{is_id}
use Rattle.pv_requests.specs.Allowed.{IsAllowed}
use Rattle.pv_sysusers.specs.Lines.{Line}
use Rattle.pv_sysusers.specs.declared.path_ids.PathId.{PathId}

-- The owners of an object, if they are given, are IDs.
abbrev pub are_owners : Option PathId → Bool
are_owners None = true
are_owners (Some owners) = is_id owners.uid && is_id owners.gid

abbrev pub AreOwners : Option PathId → Type 0
AreOwners owners = are_owners owners ≡ true

-- A line is allowed, and its owners are IDs.
abbrev pub IsAllowedLine : Line → Type 0
IsAllowedLine line = IsAllowed line.0 × AreOwners line.1
