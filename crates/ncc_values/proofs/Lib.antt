pub mod ElementsLemmas
pub mod FollowTable
pub mod NameLemmas
pub mod NamesTold
pub mod Reading
pub mod ValuesLemmas
