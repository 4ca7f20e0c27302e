mod Fits
mod SpanLemmas
