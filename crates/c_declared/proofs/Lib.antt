pub mod EntityLemmas
pub mod FigureLemmas
pub mod HeldLemmas
pub mod RuleLemmas
pub mod SlotLemmas
pub mod TagLemmas
pub mod ToldLemmas
pub mod ValueRows
