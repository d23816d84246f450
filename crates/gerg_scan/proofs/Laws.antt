-- By what rows a scan of the equation refuses.
pub mod SampleRows
