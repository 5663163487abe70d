mod PairLemmas
mod HasLemmas
mod RunLemmas
mod LinkRunLemmas
