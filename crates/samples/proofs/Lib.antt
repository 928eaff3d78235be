pub mod OneStructure
