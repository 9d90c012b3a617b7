mod ConversionLemmas
mod RowLemmas
mod PieceLemmas
mod FormatLemmas
