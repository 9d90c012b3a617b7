mod FunctionLemmas
mod WalkLemmas
mod WholeLemmas
