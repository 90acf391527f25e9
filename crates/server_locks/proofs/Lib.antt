mod CallLemmas
mod FrontLemmas
mod OpenedLemmas
mod RequestLemmas
mod WriteLemmas
mod Within
