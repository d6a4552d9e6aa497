pub mod NewestEntry
