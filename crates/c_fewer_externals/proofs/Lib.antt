mod StaticLemmas
mod ListLemmas
mod ParameterLemmas
mod DeclarationLemmas
