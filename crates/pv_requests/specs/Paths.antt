-- Lines whose IDs are those of an object in the tree (sysusers.d(5), "ID").
use Rattle.std.specs.Prelude.{◌≡◌, ◌<◌, ◌^◌, length, Option, Some, None}
use Rattle.pv_path.specs.Paths.{Path}
use Rattle.pv_requests.specs.declared.request.GroupId.TheVariants as group
use Rattle.pv_requests.specs.declared.request.Request.{Request}
use Rattle.pv_requests.specs.declared.request.Request.TheVariants as request
use Rattle.pv_requests.specs.declared.request.UserId.TheVariants as user

-- The path whose object gives the IDs of a line, if it names one.
abbrev pub number_path : Request → Option Path
number_path (request.User name (user.Path path) locked gecos home shell place) = Some path
number_path (request.Group name (group.Path path) place) = Some path
number_path line = None

-- If a line names such a path, the path has fewer than 2^32 names.
abbrev pub HasFewNames : Request → Type 0
HasFewNames line = (path : Path) → number_path line ≡ Some path → length path < 2 ^ 32
