mod Optional
