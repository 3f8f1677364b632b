pub mod Reading
pub mod FewNames
pub mod AllowedRequests
