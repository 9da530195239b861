pub mod CommentPlans
pub mod NotedNodes
pub mod PlansDecide
pub mod RoutePlans
pub mod SilentPlans
pub mod WholeResults
