mod Columns
mod JobLemmas
mod NamesakeLemmas
mod NearFirst
mod ScanLemmas
mod StayLemmas
