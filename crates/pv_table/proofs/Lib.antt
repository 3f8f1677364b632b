mod Rows
mod TurnRows
pub mod PlaceLaws
mod RankLaws
mod FirstLaws
pub mod KeepLaws
mod BuildLaws
pub mod OrderLaws
pub mod ActionLaws
pub mod QuietLaws
pub mod SayingLaws
pub mod EffectLaws
pub mod ListedLaws
pub mod Restamping
pub mod GoingLaws
pub mod ChildrenLaws
pub mod GoingInput
