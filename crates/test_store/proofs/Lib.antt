pub mod NewShards
